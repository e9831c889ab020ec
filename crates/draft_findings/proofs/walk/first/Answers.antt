use Rattle.std.proofs.Common.{ap, sym, ◌∙◌, ◌++◌, length}
use Rattle.std.specs.Char.{encode_utf8}
use Rattle.std.proofs.lemmas.Str.{chars_past_char}
use Rattle.draft_findings.proofs.WalkLaws.{chars_none}
use Rattle.draft_findings.proofs.walk.first.Goals as goal

pub returns-in-Some : goal.returns-in-Some
returns-in-Some c =
    chars_past_char c.args.text.now c.as_str.result.now c.in-Some.c c.utf8.text
    (sym c.chars-characters.ensures.rest ∙ c.in-Some.ensures.steps.0 ∙ ap (λ r. encode_utf8 c.in-Some.c ++ r) (sym c.as_str.ensures))

pub returns-in-None : goal.returns-in-None
returns-in-None c = chars_none c.args.text.now (ap length (sym c.chars-characters.ensures.rest) ∙ c.in-None.ensures.steps.0.0)
