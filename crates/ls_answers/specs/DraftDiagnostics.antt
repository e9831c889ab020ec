-- What is wrong or doubtful in a draft, as it is reported to a client (LSP 3.17, "PublishDiagnostics Notification").
use Rattle.std.specs.Prelude.{◌≡◌, ℕ, ◌++◌, ◌∷◌, Bool, true, false, not, codes, List, [], filter, map, Option, None, Some}
use Rattle.ls_text.specs.Lines.{units}
use Rattle.ls_text.specs.Positions.{place_range}
use Rattle.ls_text.specs.declared.position.Encoding.TheVariants.{Utf32}
use Rattle.ls_text.specs.declared.position.Place.{Place}
use Rattle.ls_text.specs.declared.position.Range.{Range}
use Rattle.abnf_lint.specs.declared.finding.Code.{Code}
use Rattle.abnf_lint.specs.declared.finding.Code.TheVariants.{Undefined, Unproductive}
use Rattle.abnf_lint.specs.declared.finding.Finding.{Finding}
use Rattle.abnf_lint.specs.declared.message.Severity.{Severity}
use Rattle.abnf_lint.specs.declared.message.Severity.TheVariants.{Error}
use Rattle.abnf_lint.specs.Messages.{code_text, finding_message, severity_of}
use Rattle.abnf_lint.specs.Rows.{AreRows}
use Rattle.origins.specs.Origins.{characters}
use Rattle.xml_blocks.specs.Faults.{fault_words}
use Rattle.xml_blocks.specs.declared.fault.XmlFault.{XmlFault}
use Rattle.joined_grammars.specs.Repeats.{AreRepeats}
use Rattle.joined_grammars.specs.declared.repeats.Repeat.{Repeat}
use Rattle.draft_findings.specs.Ends.{block_ends}
use Rattle.draft_findings.specs.Reports.{Remarked, reported}
use Rattle.draft_findings.specs.Words.{addition, differing}
use Rattle.draft_findings.specs.declared.report.Remark.{Remark}
use Rattle.draft_findings.specs.declared.report.Remark.TheVariants.{Differs, FirstOf, Plain}
use Rattle.draft_grammars.specs.Places.{Mapped, fault_range, outward_range}
use Rattle.ls_answers.specs.declared.answer.DraftCode.{DraftCode}
use Rattle.ls_answers.specs.declared.answer.DraftCode.TheVariants as code
use Rattle.ls_answers.specs.declared.answer.DraftDiagnostic.{DraftDiagnostic}

-- the text of a code: `differs` of a definition that differs from an earlier one of its name, `xml` of a fault of the draft's XML
abbrev pub draft_code_text : DraftCode → List ℕ
draft_code_text (code.Grammar of) = code_text of
draft_code_text code.Differs = codes "differs"
draft_code_text code.Xml = codes "xml"

-- whether it is an error or a warning
abbrev pub draft_severity : DraftCode → Severity
draft_severity (code.Grammar of) = severity_of of
draft_severity code.Differs = Error
draft_severity code.Xml = Error

-- ---- the findings of the grammar

-- A finding of such a code may go where more rules are known: where XML is at fault, those behind the fault aren't.
abbrev pub needs_all_rules : Code → Bool
needs_all_rules Undefined = true
needs_all_rules Unproductive = true
needs_all_rules _ = false

-- a finding of this code stands, whatever comes behind the fault, if there is one
abbrev pub stands : Option XmlFault → Code → Bool
stands None code = true
stands (Some fault) code = not (needs_all_rules code)

-- the place in the draft of a place in its grammar
abbrev pub draft_range : Mapped → Place → Range
draft_range of place = outward_range of (place_range (units Utf32) (characters of.grammar) place)

-- the line of the draft from which a line of the grammar comes
abbrev pub draft_line : Mapped → ℕ → ℕ
draft_line of line = (draft_range of (record { line = line; start = 0; end = 0 })).start.line

-- the code of a finding, by what is said of it in a draft
abbrev pub remarked_code : Code → Remark → DraftCode
remarked_code of Plain = code.Grammar of
remarked_code of (Differs line) = code.Differs
remarked_code of (FirstOf count) = code.Grammar of

-- its message: the grammar's, and what the draft adds, or that the definition differs from the first, which begins in a line of the draft
abbrev pub remarked_message : Mapped → Finding → Remark → List ℕ
remarked_message of finding Plain = finding_message finding.code finding.name
remarked_message of finding (Differs line) = differing finding.name (draft_line of line)
remarked_message of finding (FirstOf count) = finding_message finding.code finding.name ++ addition (FirstOf count)

-- a finding with what is said of it, at its place in the draft
abbrev pub draft_diagnostic : Mapped → Remarked → DraftDiagnostic
draft_diagnostic of r = record {
  range = draft_range of r.finding.place;
  code = remarked_code r.finding.code r.remark;
  message = remarked_message of r.finding r.remark;
}

-- those of them that stand
abbrev pub standing : Option XmlFault → List Remarked → List Remarked
standing fault rs = filter (λ r. stands fault r.finding.code) rs

-- ---- all

-- the fault of the draft's XML, at its first character
abbrev pub fault_diagnostics : Option XmlFault → Option Range → List DraftDiagnostic
fault_diagnostics (Some fault) (Some range) = record { range = range; code = code.Xml; message = fault_words fault } ∷ []
fault_diagnostics _ _ = []

-- what is reported in a draft where these are the findings of its grammar and the definitions in it that repeat others: first what stands in
-- front of the fault, then the fault
abbrev pub draft_diagnostics : Mapped → List Repeat → List Finding → List DraftDiagnostic
draft_diagnostics of repeats found =
    map (draft_diagnostic of) (standing of.fault (reported repeats (block_ends of.draft of.grammar) found)) ++ fault_diagnostics of.fault (fault_range of)

-- These are reported in a draft, in its order.
pub record AreDraftDiagnostics (of : Mapped) (diagnostics : List DraftDiagnostic) : Type 0 where
  pub findings : List Finding
  pub of_text : AreRows (characters of.grammar) findings
  pub repeats : List Repeat
  pub are_repeats : AreRepeats (characters of.grammar) repeats
  pub diagnostics_are : diagnostics ≡ draft_diagnostics of repeats findings
