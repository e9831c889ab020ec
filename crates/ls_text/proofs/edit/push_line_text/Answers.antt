use Rattle.std.proofs.Common.{ap, ◌∙◌, ◌++◌}
use Rattle.std.specs.Str.{chars}
use Rattle.std.specs.String.{string_bytes}
use Rattle.std.proofs.lemmas.Str.{IsUtf8-string_bytes}
use Rattle.ls_text.specs.Cut.{end_text}
use Rattle.ls_text.proofs.HeldLaws.{line_spelled}
use Rattle.ls_text.proofs.edit.push_line_text.Goals as goal

pub returns : goal.returns
returns c =
    ap chars (c.in_ok-push_str-2.ensures.bytes ∙ ap (λ x. x ++ c.as_str.result.now) c.in_ok-push_str.ensures.bytes)
    ∙ line_spelled (string_bytes c.args.text.now) c.text.result.now c.as_str.result.now c.args.line.now (IsUtf8-string_bytes c.args.text.now) c.text.ensures.characters c.text.utf8 (c.as_str.ensures ∙ ap end_text c.end.ensures)
