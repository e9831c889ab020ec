-- What is printed of the findings in a text: a line for each, in the form that compilers use.
use Rattle.std.specs.Prelude.{◌≡◌, ℕ, List, [], ◌∷◌, ◌++◌, Option, Some, None, codes}
use Rattle.ls_text.specs.Lines.{units}
use Rattle.ls_text.specs.Positions.{place_start, position_of}
use Rattle.ls_text.specs.declared.position.Encoding.TheVariants.{Utf32}
use Rattle.ls_text.specs.declared.position.Place.{Place}
use Rattle.ls_text.specs.declared.position.Position.{Position}
use Rattle.abnf_lint.specs.declared.finding.Finding.{Finding}
use Rattle.abnf_lint.specs.declared.message.Severity.{Severity}
use Rattle.abnf_lint.specs.declared.message.Severity.TheVariants.{Error, Warning}
use Rattle.abnf_lint.specs.Messages.{code_text, severity_of}
use Rattle.abnf_lint.specs.Rows.{AreRows}
use Rattle.draft_findings.specs.declared.report.Remark.{Remark}
use Rattle.draft_findings.specs.declared.report.Remark.TheVariants.{Differs}
use Rattle.draft_findings.specs.Reports.{Remarked, reported}
use Rattle.draft_findings.specs.Words.{addition, differing}
use Rattle.joined_grammars.specs.declared.repeats.Repeat.{Repeat}
use Rattle.findings_text.specs.declared.print.Printed.{Printed}
use Rattle.findings_text.specs.Gaps.{hint_behind}
use Rattle.findings_text.specs.Hints.{AreKnown, compared, message}
use Rattle.findings_text.specs.Unread.{Asides, merged, no_asides, outcome_with}
pub use Rattle.findings_text.specs.Places.{counted_text, place_text}

-- how grave a finding is, in a word
abbrev pub severity_text : Severity → List ℕ
severity_text Error = codes "error"
severity_text Warning = codes "warning"

-- where a place begins: its line, and the characters of that line before it
abbrev pub position_at : List ℕ → Place → Position
position_at text place = position_of (units Utf32) text (place_start text place)

-- where a finding begins
abbrev pub begin_of : List ℕ → Finding → Position
begin_of text finding = position_at text finding.place

-- the message of a finding, with a hint behind it, and then how many faults its block has, where it stands for all of them; or that
-- its definition differs from the first, in this line
abbrev pub message_at : List (List ℕ) → Option ℕ → List ℕ → Remarked → List ℕ
message_at known None hint told = message known told.finding ++ hint ++ addition told.remark
message_at known (Some line) hint told = differing told.finding.name line

-- the code that is printed of it
abbrev pub code_at : Option ℕ → Finding → List ℕ
code_at None finding = code_text finding.code
code_at (Some line) finding = codes "differs"

-- `FILE:LINE:COLUMN: severity: message [code]`, and LF, of a finding that begins at this position, where its name is compared
-- with these, its definition may differ from the first, in a line, and a hint may be given. Line and column are printed from 1.
abbrev pub line_of_finding : List (List ℕ) → List ℕ → Position → Option ℕ → List ℕ → Remarked → List ℕ
line_of_finding known file at original hint told =
    file ++ place_text at ++ severity_text (severity_of told.finding.code) ++ codes ": "
    ++ message_at known original hint told ++ codes " [" ++ code_at original told.finding ++ (codes "]" ++ 10 ∷ [])

-- where in the file stands what has this position in the grammar's text; positions count characters
abbrev pub Locator : Type 0
Locator = Position → Position

-- the line of the file in which the first definition begins, where the finding's differs from it
abbrev pub original_line : Locator → List ℕ → Remark → Option ℕ
original_line locate text (Differs line) = Some (locate (position_at text (record { line = line; start = 0; end = 0 }))).line
original_line locate text _ = None

-- the line of a finding that is reported, at the place of the file where it begins, where in these lines rules generate nothing whatever
-- the gaps of a joined text stand for
abbrev pub finding_line : Locator → Option (List ℕ) → List (List ℕ) → List ℕ → List ℕ → Remarked → List ℕ
finding_line locate kept known file text told =
    line_of_finding known file (locate (begin_of text told.finding)) (original_line locate text told.remark) (hint_behind kept text told.finding) told

-- These are the findings of a text, and the names with which theirs are compared.
pub record AreFoundWith (text : List ℕ) (found : List Finding) (names : List (List ℕ)) : Type 0 where
  pub of_text : AreRows text found
  pub known : List (List ℕ)
  pub are_known : AreKnown text known
  pub names_are : names ≡ compared found known

-- the lines of findings that are reported of a grammar's text from a file with this name, among those of what can't be read of the file
abbrev pub shown_lines : Asides → Locator → Option (List ℕ) → List (List ℕ) → List ℕ → List ℕ → List Remarked → List ℕ
shown_lines asides locate kept names file text shown =
    merged file asides.0 (λ told. locate (begin_of text told.finding)) (finding_line locate kept names file text) asides.1 shown

-- This is printed of a grammar's text from a file with this name, of which this can't be read, where these definitions repeat others,
-- and blocks end at these lines: the lines of what is reported of its findings, in their order, among them those of what can't be
-- read, and how the file went by them.
pub record IsPrintedFrom (asides : Asides) (repeats : List Repeat) (ends : List ℕ) (locate : Locator) (file text : List ℕ) (printed : Printed) : Type 0 where
  pub found : List Finding
  pub names : List (List ℕ)
  pub of_text : AreFoundWith text found names
  pub lines_are : printed.lines ≡ shown_lines asides locate None names file text (reported repeats ends found)
  pub outcome_is : printed.outcome ≡ outcome_with asides.1 (reported repeats ends found)

-- This is printed of a file with this name that is the grammar's text: the lines of all its findings, in their order, and how
-- the file went by them. There is one such print-out (`printed_texts_exist`), and only one (`printed_texts_are_unique`).
abbrev pub IsPrinted : List ℕ → List ℕ → Printed → Type 0
IsPrinted file text printed = IsPrintedFrom no_asides [] [] (λ at. at) file text printed
