-- What the answer to a question about a grammar is.
use Rattle.std.specs.Prelude.{ℕ, List}
use Rattle.ls_text.specs.declared.position.Encoding.{Encoding}
use Rattle.ls_answers.specs.Diagnostics.{AreDiagnostics}
use Rattle.ls_answers.specs.Hovers.{IsHover}
use Rattle.ls_answers.specs.Outline.{IsOutline}
use Rattle.ls_answers.specs.Insertions.{IsInsertion}
use Rattle.ls_answers.specs.Places.{AreDefinitions, AreReferences}
use Rattle.ls_answers.specs.Renames.{IsRename}
use Rattle.ls_answers.specs.SemanticTokens.{AreSemanticTokens}
use Rattle.ls_answers.specs.declared.ask.Ask.{Ask}
use Rattle.ls_answers.specs.declared.ask.Ask.TheVariants as ask
use Rattle.ls_answers.specs.declared.answer.Answer.{Answer}
use Rattle.ls_answers.specs.declared.answer.Answer.TheVariants as answer

-- The answer to the question about the grammar with these characters. Positions in both count the units of the encoding.
abbrev pub IsAnswerInGrammar : Encoding → List ℕ → Ask → Answer → Type 0
IsAnswerInGrammar encoding text (ask.Hover at) (answer.Hover hover) = IsHover encoding text at hover
IsAnswerInGrammar encoding text (ask.Definition at) (answer.Places ranges) = AreDefinitions encoding text at ranges
IsAnswerInGrammar encoding text (ask.References at declarations) (answer.Places ranges) = AreReferences encoding text at declarations ranges
IsAnswerInGrammar encoding text ask.Symbols (answer.Symbols symbols) = IsOutline encoding text symbols
IsAnswerInGrammar encoding text (ask.Rename at new) answer = IsRename encoding text at new answer
IsAnswerInGrammar encoding text (ask.Action range) (answer.Insert insertion) = IsInsertion encoding text range insertion
IsAnswerInGrammar encoding text ask.Tokens (answer.Numbers numbers) = AreSemanticTokens encoding text numbers
IsAnswerInGrammar encoding text ask.Diagnose (answer.Findings diagnostics) = AreDiagnostics encoding text diagnostics
IsAnswerInGrammar encoding text _ _ = ⊥
