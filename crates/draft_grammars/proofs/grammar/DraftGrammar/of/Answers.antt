use Rattle.std.proofs.Common.{List, ap, arith, length, encode_utf8_all}
use Rattle.origins.specs.Origins.{Sourced, characters}
use Rattle.draft_grammars.proofs.GatherLaws.{no_larger}
use Rattle.draft_grammars.proofs.grammar.DraftGrammar.of.Goals as goal

pub text_of-requires : goal.text_of-requires
text_of-requires c =
    let same = ap (λ (g : List Sourced). length (encode_utf8_all (characters g))) c.in_ok-grammar.ensures.grammar in
    let le = no_larger c.args.format c.args.draft.now in
    omega (arith, same, le, c.char_count-count.ensures.small)
