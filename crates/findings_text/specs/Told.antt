-- What is printed of a grammar at the front of a text, to which rules of others are joined behind it: nothing is printed of
-- these.
use Rattle.std.specs.Prelude.{◌≡◌, ℕ, List, Some, filter}
use Rattle.abnf_names.specs.Places.{Named}
use Rattle.abnf_names.specs.Rules.{Grammar, IsGrammar}
use Rattle.abnf_lint.specs.declared.finding.Finding.{Finding}
use Rattle.abnf_lint.specs.Rows.{AreRows}
use Rattle.draft_findings.specs.Reports.{reported}
use Rattle.joined_grammars.specs.declared.repeats.Repeat.{Repeat}
use Rattle.findings_text.specs.declared.print.Printed.{Printed}
use Rattle.findings_text.specs.Gaps.{AreLinesKept}
use Rattle.findings_text.specs.Hints.{AreKnown, compared}
use Rattle.findings_text.specs.Print.{Locator, shown_lines}
use Rattle.findings_text.specs.Rules.{AreRuleLines, heads}
use Rattle.findings_text.specs.Unread.{Asides, outcome_with}
pub use Rattle.findings_text.specs.Gaps.{stands_in}

-- the findings that stand in the grammar at the front of a joined text
abbrev pub told_findings : List ℕ → List Finding → List Finding
told_findings told found = filter (λ finding. stands_in told finding.place) found

-- These are the findings of a joined text that stand in the grammar at its front, and the names with which theirs are
-- compared. The rules of the joined text are known, in its order, and then the core rules: so of names that are as near one
-- of the grammar at the front is found. And these are the lines in which rules begin that generate nothing in the filled text.
pub record AreToldWith (told text : List ℕ) (found : List Finding) (names : List (List ℕ)) (kept : List ℕ) : Type 0 where
  pub all : List Finding
  pub of_text : AreRows text all
  pub found_are : found ≡ told_findings told all
  pub known : List (List ℕ)
  pub are_known : AreKnown text known
  pub names_are : names ≡ compared found known
  pub are_kept : AreLinesKept told text kept

-- This is printed of the grammar at the front of a joined text, of whose file this can't be read, where these definitions repeat
-- others, and blocks end at these lines: the lines of what is reported of the findings that stand there, in their order, among
-- them those of what can't be read, and how the file went by them.
pub record IsPrintedIn (told : List ℕ) (asides : Asides) (repeats : List Repeat) (ends : List ℕ) (locate : Locator) (file text : List ℕ) (printed : Printed) : Type 0 where
  pub found : List Finding
  pub names : List (List ℕ)
  pub kept : List ℕ
  pub of_text : AreToldWith told text found names kept
  pub lines_are : printed.lines ≡ shown_lines asides locate (Some kept) names file text (reported repeats ends found)
  pub outcome_is : printed.outcome ≡ outcome_with asides.1 (reported repeats ends found)

-- ---- the rules

-- the heads that stand in the grammar at the front of a joined text
abbrev pub told_heads : List ℕ → List (Named × ℕ) → List (Named × ℕ)
told_heads told heads = filter (λ head. stands_in told head.0.place) heads

-- This is printed of the rules of the grammar at the front of a joined text: a line for each whose first definition stands
-- there, by the joined text.
pub record ArePrintedRulesIn (told : List ℕ) (locate : Locator) (file text lines : List ℕ) : Type 0 where
  pub grammar : Grammar
  pub of_text : grammar.text ≡ text
  pub right : IsGrammar grammar
  pub lines_are : AreRuleLines locate file grammar (told_heads told (heads grammar.names grammar.places)) lines
