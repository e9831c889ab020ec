-- What is printed of a file where the names of other files may be known: rules of theirs are joined to its grammar, and nothing
-- is printed of them.
use Rattle.std.specs.Prelude.{◌≡◌, ◌⊎◌, ℕ, Bool, true, false, List, [], ◌∷◌, ◌++◌, Result, Ok, Err}
use Rattle.text_files.specs.declared.file.FileFault.{FileFault}
use Rattle.text_files.specs.declared.file.FileFault.TheVariants.{CannotRead, Memory, NotText}
use Rattle.origins.specs.Origins.{Sourced, characters}
use Rattle.origins.specs.declared.unread.Unread.{Unread}
use Rattle.xml_blocks.specs.declared.fault.XmlFault.{XmlFault}
use Rattle.draft_findings.specs.Ends.{block_ends}
use Rattle.joined_grammars.specs.declared.repeats.Repeat.{Repeat}
use Rattle.joined_grammars.specs.Joined.{IsJoined}
use Rattle.joined_grammars.specs.Repeats.{AreRepeats}
use Rattle.findings_text.specs.declared.outcome.Outcome.TheVariants.{Clean, Warnings}
use Rattle.findings_text.specs.declared.print.Printed.{Printed}
use Rattle.findings_text.specs.Gaps.{IsFilledTooLarge}
use Rattle.findings_text.specs.Print.{IsPrinted}
use Rattle.findings_text.specs.Rules.{ArePrintedRules}
use Rattle.findings_text.specs.Sources.{position_in_draft}
use Rattle.findings_text.specs.Told.{ArePrintedRulesIn, IsPrintedIn}
use Rattle.findings_text.specs.Unread.{asides_of, outcome_with, unread_lines}
use Rattle.findings_files.specs.declared.content.Content.{Content}
use Rattle.findings_files.specs.declared.format.Format.{Format}
use Rattle.findings_files.specs.declared.format.Format.TheVariants.{Abnf}
use Rattle.findings_files.specs.Contents.{IsContentIn, IsGrammarIn, IsNotGathered, IsNotRead, LacksGrammar}
use Rattle.findings_files.specs.Drafts.{ArePrintedDraftRules, IsPrintedDraft, IsPrintedWithout, outcome_without}
use Rattle.findings_files.specs.Formats.{IsPrintedFault}
use Rattle.findings_files.specs.Texts.{RefusesPrint, IsTextRefused}

-- ---- the files whose names are known

-- The grammar of a file, of which this is read, is known too, behind those that were.
abbrev pub IsAddedBy : Result Content XmlFault → List (List ℕ) → List (List ℕ) → Type 0
IsAddedBy (Ok content) old new = new ≡ old ++ characters content.grammar ∷ []
IsAddedBy (Err found) old new = ⊥

-- Of a file whose names are known this is printed, where it has a grammar or lacks one: a warning that it does, and one for each block
-- that can't be read.
abbrev pub IsPrintedSourceIf : Bool → Format → List ℕ → List ℕ → Content → Printed → Type 0
IsPrintedSourceIf true format file text content printed = IsPrintedWithout format Warnings file text content.unread printed
IsPrintedSourceIf false format file text content printed =
    (printed.lines ≡ unread_lines file (asides_of text content.unread).0 content.unread) × (printed.outcome ≡ outcome_with content.unread [])

-- This is printed of a file of this format whose names are known, of which this is read; of one at fault nothing is.
abbrev pub IsPrintedSource : Format → List ℕ → List ℕ → Result Content XmlFault → Printed → Type 0
IsPrintedSource format file text (Ok content) printed =
    (lacks : Bool) × LacksGrammar format text content.grammar lacks × IsPrintedSourceIf lacks format file text content printed
IsPrintedSource format file text (Err found) printed = ⊥

-- The grammar of a file of this format is known too, and this is printed of the file.
abbrev pub IsAdded : Format → List ℕ → List ℕ → List (List ℕ) → List (List ℕ) → Printed → Type 0
IsAdded format file text old new printed =
    (read : Result Content XmlFault) × IsContentIn format text read × IsAddedBy read old new × IsPrintedSource format file text read printed

-- Why the grammar of a file, of which this is read, isn't known: it is too large, its draft is at fault, or memory was refused.
abbrev pub IsNotAddedBy : Result Content XmlFault → FileFault → Type 0
IsNotAddedBy (Ok content) fault = RefusesPrint content.grammar fault
IsNotAddedBy (Err found) NotText = Unit {0}
IsNotAddedBy (Err found) Memory = Unit {0}
IsNotAddedBy (Err found) CannotRead = ⊥

-- Why the grammar of a file of this format isn't known.
abbrev pub IsNotAdded : Format → List ℕ → FileFault → Type 0
IsNotAdded format text fault = IsNotRead format text fault ⊎ ((read : Result Content XmlFault) × IsContentIn format text read × IsNotAddedBy read fault)

-- ---- the findings

-- The definitions that may be repeated in a file of this format: those of a draft and of a published text. In a file that is a grammar
-- each second definition is an error.
abbrev pub AreRepeatsAs : Format → List ℕ → List Repeat → Type 0
AreRepeatsAs Abnf text repeats = repeats ≡ []
AreRepeatsAs _ text repeats = AreRepeats text repeats

-- the lines of a grammar's text at which the blocks of its file, of this format, end: none of a file that is a grammar, of which
-- each fault of syntax is reported
abbrev pub ends_as : Format → List ℕ → List Sourced → List ℕ
ends_as Abnf draft grammar = []
ends_as _ draft grammar = block_ends draft grammar

-- This is printed of a grammar to which others are joined: the lines of the findings that stand in it, at their places in the
-- file, of which this can't be read.
abbrev pub IsPrintedJoined : List (List ℕ) → Format → List ℕ → List ℕ → List Unread → List Sourced → Printed → Type 0
IsPrintedJoined known format file draft unread grammar printed =
    (text : List ℕ) × (repeats : List Repeat) × IsJoined (characters grammar) known text × AreRepeatsAs format text repeats
    × IsPrintedIn (characters grammar) (asides_of draft unread) repeats (ends_as format draft grammar) (position_in_draft draft grammar text) file text printed

-- This is printed of a file of this format that has a grammar: where no other file is known, the findings of the file alone; else the
-- lines of those findings of the joined text that stand in the file's grammar, at their places in the file.
abbrev pub IsPrintedOf : List (List ℕ) → Format → List ℕ → List ℕ → Content → Printed → Type 0
IsPrintedOf [] Abnf file text content printed = IsPrinted file text printed
IsPrintedOf [] format file text content printed = IsPrintedDraft file text content.unread content.grammar printed
IsPrintedOf (k ∷ known) format file text content printed =
    IsPrintedJoined (k ∷ known) format file text content.unread content.grammar printed

-- This is printed of such a file, where it has a grammar or lacks one.
abbrev pub IsPrintedIf : Bool → List (List ℕ) → Format → List ℕ → List ℕ → Content → Printed → Type 0
IsPrintedIf true known format file text content printed = IsPrintedWithout format (outcome_without format) file text content.unread printed
IsPrintedIf false known format file text content printed = IsPrintedOf known format file text content printed

-- This is printed of a file of this format, of which this is read. There is one (`prints_exist`, `joined_prints_exist`).
abbrev pub IsPrintedContent : List (List ℕ) → Format → List ℕ → List ℕ → Content → Printed → Type 0
IsPrintedContent known format file text content printed =
    (lacks : Bool) × LacksGrammar format text content.grammar lacks × IsPrintedIf lacks known format file text content printed

-- The same of a file that may be at fault.
abbrev pub IsPrintedBy : List (List ℕ) → Format → List ℕ → List ℕ → Result Content XmlFault → Printed → Type 0
IsPrintedBy known format file text (Ok content) printed = IsPrintedContent known format file text content printed
IsPrintedBy known format file text (Err fault) printed = IsPrintedFault file text fault printed

-- This is printed of a file of this format, where these other files are known. There is only one such print-out (`prints_are_unique`).
abbrev pub IsPrintedWith : List (List ℕ) → Format → List ℕ → List ℕ → Printed → Type 0
IsPrintedWith known format file text printed =
    (read : Result Content XmlFault) × IsContentIn format text read × IsPrintedBy known format file text read printed

-- ---- the rules

-- This is printed of the rules of a grammar to which others are joined: those whose first definition stands in it.
abbrev pub ArePrintedJoinedRules : List (List ℕ) → List ℕ → List ℕ → List Sourced → List ℕ → Type 0
ArePrintedJoinedRules known file draft grammar lines =
    (text : List ℕ) × IsJoined (characters grammar) known text × ArePrintedRulesIn (characters grammar) (position_in_draft draft grammar text) file text lines

-- This is printed of the rules of a file of this format with this grammar. Where no other file is known, it is what is printed of the
-- file alone. Else it is the lines of the rules whose first definition stands in the file's grammar, each by the joined text.
abbrev pub ArePrintedRulesOf : List (List ℕ) → Format → List ℕ → List ℕ → List Sourced → List ℕ → Type 0
ArePrintedRulesOf [] Abnf file text grammar lines = ArePrintedRules file text lines
ArePrintedRulesOf [] format file text grammar lines = ArePrintedDraftRules file text grammar lines
ArePrintedRulesOf (k ∷ known) format file text grammar lines = ArePrintedJoinedRules (k ∷ known) file text grammar lines

-- This is printed of the rules of a file with this grammar, which goes clean, or of one at fault.
abbrev pub ArePrintedRulesBy : List (List ℕ) → Format → List ℕ → List ℕ → Result (List Sourced) XmlFault → Printed → Type 0
ArePrintedRulesBy known format file text (Ok grammar) printed =
    ArePrintedRulesOf known format file text grammar printed.lines × (printed.outcome ≡ Clean)
ArePrintedRulesBy known format file text (Err fault) printed = IsPrintedFault file text fault printed

-- This is printed of the rules in a file of this format, where these other files are known. There is only one such print-out
-- (`rule_prints_are_unique`), and one there is where other files are known and the joined text is small (`joined_rule_prints_exist`).
abbrev pub ArePrintedRulesWith : List (List ℕ) → Format → List ℕ → List ℕ → Printed → Type 0
ArePrintedRulesWith known format file text printed =
    (read : Result (List Sourced) XmlFault) × IsGrammarIn format text read × ArePrintedRulesBy known format file text read printed

-- ---- refusals

-- Why rules of others aren't joined to a grammar: it, or the joined one, is too large, or memory was refused.
abbrev pub IsJoinRefused : List (List ℕ) → List Sourced → FileFault → Type 0
IsJoinRefused known grammar fault = RefusesPrint grammar fault ⊎ ((text : List ℕ) × IsJoined (characters grammar) known text × IsTextRefused text fault)

-- The joined text is too large once its gaps are filled.
abbrev pub IsFillingRefused : List (List ℕ) → List Sourced → FileFault → Type 0
IsFillingRefused known grammar fault =
    (fault ≡ NotText) × ((text : List ℕ) × IsJoined (characters grammar) known text × IsFilledTooLarge (characters grammar) text)

-- Why the rules of a file of this format with this grammar, to which others may be joined, aren't printed.
abbrev pub AreRulesRefused : List (List ℕ) → Format → List Sourced → FileFault → Type 0
AreRulesRefused [] Abnf grammar fault = fault ≡ Memory
AreRulesRefused [] format grammar fault = RefusesPrint grammar fault
AreRulesRefused (k ∷ known) format grammar fault = IsJoinRefused (k ∷ known) grammar fault

-- Why the findings of such a file aren't printed.
abbrev pub AreFindingsRefused : List (List ℕ) → Format → List Sourced → FileFault → Type 0
AreFindingsRefused [] format grammar fault = AreRulesRefused [] format grammar fault
AreFindingsRefused (k ∷ known) format grammar fault = IsJoinRefused (k ∷ known) grammar fault ⊎ IsFillingRefused (k ∷ known) grammar fault

-- Why nothing is printed of a file of this format: it isn't read, or memory was refused, or what would be printed of its grammar is.
abbrev pub IsPrintRefused : List (List ℕ) → Format → List ℕ → FileFault → Type 0
IsPrintRefused known format text fault =
    (IsNotRead format text fault ⊎ (fault ≡ Memory)) ⊎ ((content : Content) × IsContentIn format text (Ok content) × AreFindingsRefused known format content.grammar fault)

-- Why nothing is printed of the rules of such a file.
abbrev pub IsRulePrintRefused : List (List ℕ) → Format → List ℕ → FileFault → Type 0
IsRulePrintRefused known format text fault =
    (IsNotGathered format text fault ⊎ (fault ≡ Memory)) ⊎ ((grammar : List Sourced) × IsGrammarIn format text (Ok grammar) × AreRulesRefused known format grammar fault)

-- Why nothing is printed of the grammar of such a file.
abbrev pub IsGrammarPrintRefused : Format → List ℕ → FileFault → Type 0
IsGrammarPrintRefused format text fault = IsRulePrintRefused [] format text fault
