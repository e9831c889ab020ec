-- How texts went by what is reported of them.
use Rattle.std.specs.Prelude.{Bool, true, false, List, [], ◌∷◌, if◌then◌else◌}
use Rattle.std.specs.List.{list_any}
use Rattle.abnf_lint.specs.declared.message.Severity.{Severity}
use Rattle.abnf_lint.specs.declared.message.Severity.TheVariants.{Error, Warning}
use Rattle.abnf_lint.specs.Messages.{severity_of}
use Rattle.draft_findings.specs.Reports.{Remarked}
use Rattle.findings_text.specs.declared.outcome.Outcome.{Outcome}
use Rattle.findings_text.specs.declared.outcome.Outcome.TheVariants as o

-- the severity is that of an error, and not of a warning
abbrev pub is_grave : Severity → Bool
is_grave Error = true
is_grave Warning = false

-- the finding that is reported is an error
abbrev pub is_error : Remarked → Bool
is_error told = is_grave (severity_of told.finding.code)

-- how a text went by what is reported of it: clean where nothing is, with warnings alone, or with an error among them
abbrev pub outcome_of : List Remarked → Outcome
outcome_of [] = o.Clean
outcome_of (r ∷ told) = if list_any is_error (r ∷ told) then o.Errors else o.Warnings
