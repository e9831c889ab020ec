use Rattle.std.proofs.Common.{◌∙◌, ap}
use Rattle.std.specs.Prelude.{Err}
use Rattle.text_files.specs.Files.{IsTextFile}
use Rattle.text_files.proofs.Files.{large_file, refused_file, small_file, text_file}
use Rattle.text_files.proofs.file.text_of.Goals as goal

pub returns-in_err-of_text-clause-fault : goal.returns-in_err-of_text-clause-fault
returns-in_err-of_text-clause-fault c =
    let was = c.in_err-of_text.was in
    refused_file c.in_err-of_text.field-0.0 c.from_residual.result (IsTextFile c.args.bytes.items) c.from_residual.ensures.1
    (λ is. large_file c.in-Ok.text c.args.bytes c.in-Ok.ensures.ok (c.of_text.ensures.too_large.0 (was ∙ ap Err is)))
    (λ is. small_file c.in-Ok.text c.args.bytes c.in-Ok.ensures.ok (λ more. let large = c.of_text.ensures.too_large.1 more in absurd (cc (large, was, is))))

pub returns-clause-text : goal.returns-clause-text
returns-clause-text c = text_file c.in-Ok.text c.args.bytes c.in_ok-of_text.field-0 c.in-Ok.ensures.ok c.in_ok-of_text.ensures.ok.1 c.in_ok-of_text.ensures.ok.0

pub returns-clause-fault : goal.returns-clause-fault
returns-clause-fault c = (
  λ is. absurd (cc (is)),
  λ none. absurd (none (text_file c.in-Ok.text c.args.bytes c.in_ok-of_text.field-0 c.in-Ok.ensures.ok c.in_ok-of_text.ensures.ok.1 c.in_ok-of_text.ensures.ok.0).0),
)
