-- What the answer to a question about a draft is: that to the question about the draft's grammar, with each position where it comes from.
use Rattle.std.specs.Prelude.{◌≡◌, ◌==◌, if◌then◌else◌, ℕ, List, [], filter, map, Option, None, Some, option_map, Bool}
use Rattle.std.specs.Option.{option_and_then}
use Rattle.ls_text.specs.declared.position.Encoding.{Encoding}
use Rattle.ls_text.specs.declared.position.Encoding.TheVariants.{Utf32}
use Rattle.ls_text.specs.declared.position.Position.{Position}
use Rattle.ls_text.specs.declared.position.Range.{Range}
use Rattle.ls_text.specs.Edits.{edited_all}
use Rattle.ls_text.specs.Lines.{units}
use Rattle.abnf_token.specs.Classes.{is_name}
use Rattle.abnf_rename.specs.Text.{renaming_edits, text_renamed}
use Rattle.origins.specs.Origins.{characters}
use Rattle.draft_grammars.specs.Drafts.{fault_in, grammar_in}
use Rattle.draft_grammars.specs.Insertions.{insertion_in}
use Rattle.draft_grammars.specs.Places.{Mapped, inward_position, inward_range, outward_range}
use Rattle.draft_grammars.specs.Renames.{draft_rename_fault}
use Rattle.draft_grammars.specs.declared.format.Format.{Format}
use Rattle.draft_grammars.specs.declared.rename.DraftRenameFault.{DraftRenameFault}
use Rattle.ls_answers.specs.DraftDiagnostics.{AreDraftDiagnostics}
use Rattle.ls_answers.specs.InGrammars.{IsAnswerInGrammar}
use Rattle.ls_answers.specs.RenameKeeps.{RenameKeeps}
use Rattle.ls_answers.specs.SemanticTokens.{AreReported, origin, relative}
use Rattle.ls_answers.specs.declared.ask.Ask.{Ask}
use Rattle.ls_answers.specs.declared.ask.Ask.TheVariants as ask
use Rattle.ls_answers.specs.declared.answer.Answer.{Answer}
use Rattle.ls_answers.specs.declared.answer.Answer.TheVariants as answer
use Rattle.ls_answers.specs.declared.answer.DraftAnswer.TheVariants as draft_answer
use Rattle.ls_answers.specs.declared.answer.HoverText.{HoverText}
use Rattle.ls_answers.specs.declared.answer.Insertion.{Insertion}
use Rattle.ls_answers.specs.declared.answer.RenameFault.TheVariants.{NotAName, NothingToRename}
use Rattle.ls_answers.specs.declared.answer.Symbol.{Symbol}
use Rattle.ls_answers.specs.declared.semantic_tokens.SemanticToken.{SemanticToken}

-- ---- questions

-- the question about the grammar that is asked for one about the draft, unless this is asked outside of all blocks
abbrev pub inward_ask : Mapped → Ask → Option Ask
inward_ask map (ask.Hover at) = option_map ask.Hover (inward_position map at)
inward_ask map (ask.Definition at) = option_map ask.Definition (inward_position map at)
inward_ask map (ask.References at declarations) = option_map (λ inner. ask.References inner declarations) (inward_position map at)
inward_ask map ask.Symbols = Some ask.Symbols
inward_ask map (ask.Rename at new) = option_map (λ inner. ask.Rename inner new) (inward_position map at)
inward_ask map (ask.Action range) = option_map ask.Action (inward_range map range)
inward_ask map ask.Tokens = Some ask.Tokens
inward_ask map ask.Diagnose = Some ask.Diagnose

-- what is answered outside of all blocks: nothing is shown, listed, renamed or inserted
abbrev pub outside_answer : Ask → Answer
outside_answer (ask.Hover at) = answer.Hover None
outside_answer (ask.Definition at) = answer.Places []
outside_answer (ask.References at declarations) = answer.Places []
outside_answer (ask.Rename at new) = answer.Refused (if is_name new then NothingToRename else NotAName)
outside_answer (ask.Action range) = answer.Insert None
outside_answer ask.Symbols = answer.Symbols []
outside_answer ask.Tokens = answer.Numbers []
outside_answer ask.Diagnose = answer.Draft (draft_answer.Findings [])

-- ---- answers

-- what is shown of a name, at its place in the draft
abbrev pub outward_hover : Mapped → HoverText → HoverText
outward_hover map hover = record { range = outward_range map hover.range; text = hover.text; example = hover.example }

-- a rule of an outline, at its places in the draft
abbrev pub outward_symbol : Mapped → Symbol → Symbol
outward_symbol map symbol = record { name = symbol.name; range = outward_range map symbol.range; name_range = outward_range map symbol.name_range }

-- what could be inserted in the draft, with its place and its text there, if it can be
abbrev pub outward_insertion : Format → Mapped → Insertion → Option Insertion
outward_insertion format of insertion =
    option_map (λ placed. record { position = placed.position; text = placed.text; cert = insertion.cert }) (insertion_in format of insertion.position insertion.text)

-- the same of what could be inserted in the grammar, if there is something
abbrev pub outward_action : Format → Mapped → Option Insertion → Option Insertion
outward_action format of insertion = option_and_then (outward_insertion format of) insertion

-- the edits of a rename, unless there is a reason not to grant it
abbrev pub edits_unless : Option DraftRenameFault → Mapped → List Range → List ℕ → Answer
edits_unless None of ranges new = answer.Edits (map (outward_range of) ranges) new
edits_unless (Some fault) of ranges new = answer.Draft (draft_answer.Refused fault)

-- A rename that the grammar grants is granted in the draft, too, unless there is a reason not to.
abbrev pub outward_edits : Format → Mapped → List Range → List ℕ → Answer
outward_edits format of ranges new = edits_unless (draft_rename_fault format of ranges new) of ranges new

-- the answer to a question about the grammar, in the draft; numbers of tokens and findings aren't carried by themselves
abbrev pub outward_answer : Format → Mapped → Answer → Answer
outward_answer format of (answer.Hover hover) = answer.Hover (option_map (outward_hover of) hover)
outward_answer format of (answer.Places ranges) = answer.Places (map (outward_range of) ranges)
outward_answer format of (answer.Symbols symbols) = answer.Symbols (map (outward_symbol of) symbols)
outward_answer format of (answer.Edits ranges new) = outward_edits format of ranges new
outward_answer format of (answer.Refused fault) = answer.Refused fault
outward_answer format of (answer.Insert insertion) = answer.Insert (outward_action format of insertion)
outward_answer format of (answer.Numbers numbers) = answer.Numbers numbers
outward_answer format of (answer.Findings found) = answer.Findings found
outward_answer format of (answer.Draft given) = answer.Draft given

-- ---- tokens

-- a token, at its place in the draft
abbrev pub outward_token : Mapped → SemanticToken → SemanticToken
outward_token map token = record { range = outward_range map token.range; kind = token.kind; modifiers = token.modifiers }

-- A token is reported where it stands in one line of the draft.
abbrev pub is_in_line : SemanticToken → Bool
is_in_line token = token.range.start.line == token.range.end.line

-- those of the tokens that are reported in the draft
abbrev pub outward_tokens : Mapped → List SemanticToken → List SemanticToken
outward_tokens of tokens = filter is_in_line (map (outward_token of) tokens)

-- the numbers of the tokens of the grammar that are reported in the draft
pub record AreTokensInDraft (of : Mapped) (numbers : List ℕ) : Type 0 where
  pub tokens : List SemanticToken
  pub reported : AreReported Utf32 (characters of.grammar) tokens
  pub numbers_are : numbers ≡ relative origin (outward_tokens of tokens)

-- ---- the answer in a draft

-- This is the answer to that question about the grammar, in the draft.
pub record IsCarried (format : Format) (of : Mapped) (inner : Ask) (given : Answer) : Type 0 where
  pub answer_inside : Answer
  pub right : IsAnswerInGrammar Utf32 (characters of.grammar) inner answer_inside
  pub given_is : given ≡ outward_answer format of answer_inside

-- by the question about the grammar, if there is one
abbrev pub IsGiven : Option Ask → Format → Mapped → Ask → Answer → Type 0
IsGiven None format of question given = given ≡ outside_answer question
IsGiven (Some inner) format of question given = IsCarried format of inner given

-- the answer in a draft with this grammar
abbrev pub IsAnswerWith : Format → Mapped → Ask → Answer → Type 0
IsAnswerWith format of ask.Tokens (answer.Numbers numbers) = AreTokensInDraft of numbers
IsAnswerWith format of ask.Tokens _ = ⊥
IsAnswerWith format of ask.Diagnose (answer.Draft (draft_answer.Findings found)) = AreDraftDiagnostics of found
IsAnswerWith format of ask.Diagnose _ = ⊥
IsAnswerWith format of question given = IsGiven (inward_ask of question) format of question given

-- a draft and its grammar
abbrev pub mapped : Format → Encoding → List ℕ → Mapped
mapped format encoding draft = record { draft = draft; encoding = encoding; grammar = grammar_in format draft; fault = fault_in format draft }

-- the answer to the question about the draft
abbrev pub IsAnswerInDraft : Format → Encoding → List ℕ → Ask → Answer → Type 0
IsAnswerInDraft format encoding draft question given = IsAnswerWith format (mapped format encoding draft) question given

-- ---- what a rename keeps

-- The edits give a draft whose grammar is that with the edits of a rename in the grammar, which keep it.
pub record RenameKeepsInDraft (format : Format) (encoding : Encoding) (draft : List ℕ) (at : Position) (new : List ℕ) (ranges : List Range) : Type 0 where
  pub edited : List ℕ
  pub edits : edited_all (units encoding) draft (renaming_edits new ranges) ≡ Some edited
  pub at_inside : Position
  pub stands : inward_position (mapped format encoding draft) at ≡ Some at_inside
  pub inner : List Range
  pub keeps : RenameKeeps Utf32 (characters (grammar_in format draft)) at_inside new inner
  pub grammar : characters (grammar_in format edited) ≡ text_renamed Utf32 (characters (grammar_in format draft)) new inner

-- This holds of the edits that are the answer to a rename in a draft, and their text is the new one of the question.
abbrev pub KeepsIfRenamedInDraft : Format → Encoding → List ℕ → Ask → Answer → Type 0
KeepsIfRenamedInDraft format encoding draft (ask.Rename at new) (answer.Edits ranges given) = RenameKeepsInDraft format encoding draft at given ranges × (given ≡ new)
KeepsIfRenamedInDraft format encoding draft _ _ = Unit {0}
