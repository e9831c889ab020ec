use Rattle.std.proofs.Common.{◌∙◌, ap, refl, sym}
use Rattle.std.specs.Prelude.{string_bytes}
use Rattle.std.specs.Str.{encode_utf8_all}
use Rattle.std.proofs.lemmas.Str.{IsUtf8-string_bytes, encodes-chars}
use Rattle.findings_files.proofs.grammar.print_text.Goals as goal

pub returns : goal.returns
returns c =
    let lines = c.in_ok-to_text.field-0 in
    (c.new.ensures ∙ (sym (encodes-chars (string_bytes lines) (IsUtf8-string_bytes lines)) ∙ ap encode_utf8_all c.in_ok-to_text.ensures), refl)
