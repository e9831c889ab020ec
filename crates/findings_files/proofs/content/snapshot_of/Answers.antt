use Rattle.std.proofs.Common.{◌∙◌, ap, arith, refl}
use Rattle.std.specs.Prelude.{Err, string_bytes}
use Rattle.std.specs.Str.{chars}
use Rattle.std.proofs.lemmas.Str.{IsUtf8-string_bytes}
use Rattle.findings_files.specs.Texts.{IsTextRefused}
use Rattle.findings_files.proofs.ContentLaws.{refused_text}
use Rattle.findings_files.proofs.content.snapshot_of.Goals as goal

pub returns-in_err-of_text-clause-fault : goal.returns-in_err-of_text-clause-fault
returns-in_err-of_text-clause-fault c =
    let was = c.in_err-of_text.was in
    refused_text c.in_err-of_text.field-0.0 c.from_residual.result (IsTextRefused (chars (string_bytes c.args.text))) c.from_residual.ensures.1
    (λ is. record {
      bytes = string_bytes c.args.text;
      utf8 = IsUtf8-string_bytes c.args.text;
      are = refl;
      large = let large = c.of_text.ensures.too_large.0 (was ∙ ap Err is) in omega (arith, large, c.args.text.bytes.ok.0);
    })
    tt
