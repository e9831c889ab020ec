-- What is wrong or doubtful in a text, as it is reported to a client (LSP 3.17, "PublishDiagnostics Notification").
use Rattle.std.specs.Prelude.{◌≡◌, ℕ, List, map}
use Rattle.ls_text.specs.Lines.{units}
use Rattle.ls_text.specs.Positions.{place_range}
use Rattle.ls_text.specs.declared.position.Encoding.{Encoding}
use Rattle.abnf_lint.specs.declared.finding.Finding.{Finding}
use Rattle.abnf_lint.specs.Messages.{finding_message}
use Rattle.abnf_lint.specs.Rows.{AreRows}
use Rattle.ls_answers.specs.declared.answer.Diagnostic.{Diagnostic}

-- a finding with the range of its place and its message
abbrev pub diagnostic_of : Encoding → List ℕ → Finding → Diagnostic
diagnostic_of encoding text finding = record { range = place_range (units encoding) text finding.place; code = finding.code; message = finding_message finding.code finding.name }

-- These are the findings of the text, in its order, each with its range, its code and its message.
pub record AreDiagnostics (encoding : Encoding) (text : List ℕ) (diagnostics : List Diagnostic) : Type 0 where
  pub findings : List Finding
  pub of_text : AreRows text findings
  pub diagnostics_are : diagnostics ≡ map (diagnostic_of encoding text) findings
