use Rattle.std.proofs.Common.{◌∙◌, List, ℕ, ap, arith, length, encode_utf8_all}
use Rattle.std.specs.Prelude.{Err}
use Rattle.std.proofs.lemmas.Str.{encodes-chars}
use Rattle.draft_grammars.proofs.grammar.text_of.Goals as goal

pub unreachable-requires : goal.unreachable-requires
unreachable-requires c =
    let large = c.of_text.ensures.too_large.0 (c.in-Err-TooLarge.is ∙ ap Err c.in-Err-TooLarge.field-0-is) in
    let bytes = ap length c.in_ok-text.ensures.ok in
    let own = ap length (encodes-chars c.as_str.result.now c.as_str.utf8) in
    let same = ap (λ (cs : List ℕ). length (encode_utf8_all cs)) c.as_str.ensures in
    omega (arith, large, bytes, own, same, c.requires, c.in_ok-text.text.bytes.ok.0)
