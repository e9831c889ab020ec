-- What is printed of the findings in a draft or a published text: each at the place where it begins there.
use Rattle.std.specs.Prelude.{◌≡◌, ℕ, List, [], ◌∷◌, ◌++◌, codes}
use Rattle.ls_text.specs.declared.position.Position.{Position}
use Rattle.origins.specs.Origins.{Sourced, characters}
use Rattle.origins.specs.declared.unread.Unread.{Unread}
use Rattle.draft_findings.specs.Ends.{block_ends}
use Rattle.joined_grammars.specs.declared.repeats.Repeat.{Repeat}
use Rattle.joined_grammars.specs.Repeats.{AreRepeats}
use Rattle.findings_text.specs.declared.outcome.Outcome.{Outcome}
use Rattle.findings_text.specs.declared.outcome.Outcome.TheVariants.{Clean, Errors, NotRead, Warnings}
use Rattle.findings_text.specs.declared.print.Printed.{Printed}
use Rattle.findings_text.specs.Print.{IsPrintedFrom, Locator}
use Rattle.findings_text.specs.Rules.{ArePrintedRulesFrom}
use Rattle.findings_text.specs.Sources.{position_in_draft}
use Rattle.findings_text.specs.Unread.{Asides, asides_of, unread_lines}
use Rattle.findings_files.specs.declared.format.Format.{Format}
use Rattle.findings_files.specs.declared.format.Format.TheVariants.{Abnf, Markdown, Text, Xml}

-- where in a draft stands what has this position in its grammar; positions count characters
abbrev pub draft_position : List ℕ → List Sourced → Position → Position
draft_position draft grammar at = position_in_draft draft grammar (characters grammar) at

-- ---- files without a grammar

-- how a file of which findings are asked went, if it has no grammar: for a draft that is a warning, for any other file an error
abbrev pub outcome_without : Format → Outcome
outcome_without Abnf = Errors
outcome_without Markdown = Warnings
outcome_without Xml = Warnings
outcome_without Text = Errors

-- the severity of a line by which a file went so
abbrev pub outcome_severity : Outcome → List ℕ
outcome_severity Clean = codes "warning"
outcome_severity Warnings = codes "warning"
outcome_severity Errors = codes "error"
outcome_severity NotRead = codes "error"

-- what is said of a file without a grammar
abbrev pub no_grammar_text : Format → List ℕ
no_grammar_text Abnf = codes "no grammar in this text"
no_grammar_text Markdown = codes "no grammar in this draft"
no_grammar_text Xml = codes "no grammar in this draft"
no_grammar_text Text = codes "no grammar in this text"

-- the line of a file without a grammar that went so: it stands at its front
abbrev pub no_grammar_line : Format → Outcome → List ℕ → List ℕ
no_grammar_line format outcome file =
    file ++ codes ":1:1: " ++ outcome_severity outcome ++ codes ": " ++ no_grammar_text format ++ (codes " [no-grammar]" ++ 10 ∷ [])

-- the lines of such a file, of which this can't be read
abbrev pub no_grammar_lines : Format → Outcome → List ℕ → List ℕ → List Unread → List ℕ
no_grammar_lines format outcome file draft unread =
    no_grammar_line format outcome file ++ unread_lines file (asides_of draft unread).0 unread

-- This is printed of a file of this format without a grammar that went so, of which this can't be read.
abbrev pub IsPrintedWithout : Format → Outcome → List ℕ → List ℕ → List Unread → Printed → Type 0
IsPrintedWithout format outcome file draft unread printed =
    (printed.lines ≡ no_grammar_lines format outcome file draft unread) × (printed.outcome ≡ outcome)

-- ---- files with a grammar

-- This is printed of a text of whose file this can't be read, whose blocks end at these lines, and in which definitions may repeat
-- others: one that says the same as the first of its name is no finding.
abbrev pub IsPrintedRepeating : Asides → List ℕ → Locator → List ℕ → List ℕ → Printed → Type 0
IsPrintedRepeating asides ends locate file text printed =
    (repeats : List Repeat) × AreRepeats text repeats × IsPrintedFrom asides repeats ends locate file text printed

-- This is printed of a draft with this grammar, of which this can't be read: what is reported of its findings, each where it stands in
-- the draft, and a warning for each that can't be read, in the order of the draft.
abbrev pub IsPrintedDraft : List ℕ → List ℕ → List Unread → List Sourced → Printed → Type 0
IsPrintedDraft file draft unread grammar printed =
    IsPrintedRepeating (asides_of draft unread) (block_ends draft grammar) (draft_position draft grammar) file (characters grammar) printed

-- This is printed of the rules of a draft with this grammar, each where it is defined in the draft.
abbrev pub ArePrintedDraftRules : List ℕ → List ℕ → List Sourced → List ℕ → Type 0
ArePrintedDraftRules file draft grammar lines = ArePrintedRulesFrom (draft_position draft grammar) file (characters grammar) lines
