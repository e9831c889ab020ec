-- What the answer to a question about a document is, and what a rename keeps.
use Rattle.std.specs.Prelude.{ℕ, List, [], Option, None, Some, option_map}
use Rattle.ls_text.specs.declared.position.Encoding.{Encoding}
use Rattle.draft_grammars.specs.Drafts.{format_of}
use Rattle.draft_grammars.specs.declared.format.Format.{Format}
use Rattle.ls_answers.specs.InDrafts.{IsAnswerInDraft, KeepsIfRenamedInDraft}
use Rattle.ls_answers.specs.InGrammars.{IsAnswerInGrammar}
use Rattle.ls_answers.specs.RenameKeeps.{KeepsIfRenamedInGrammar}
use Rattle.ls_answers.specs.declared.ask.Ask.{Ask}
use Rattle.ls_answers.specs.declared.answer.Answer.{Answer}
use Rattle.ls_answers.specs.declared.answer.Answer.TheVariants as answer
use Rattle.ls_answers.specs.declared.answer.HoverText.{HoverText}
use Rattle.ls_answers.specs.declared.answer.Insertion.{Insertion}

-- the answer, by what the document is written in; one without a format is a grammar
abbrev pub IsAnswerBy : Option Format → Encoding → List ℕ → Ask → Answer → Type 0
IsAnswerBy None encoding text question answer = IsAnswerInGrammar encoding text question answer
IsAnswerBy (Some format) encoding text question answer = IsAnswerInDraft format encoding text question answer

-- The answer to the question about the document with these characters. Positions in both count the units of the encoding, which says too
-- whether it is a grammar or a draft. Each question about a document of fewer than 2^62 characters has one (`answers_exist`), and only one
-- but for the certificate beside an example (`answers_are_unique`).
abbrev pub IsAnswer : Encoding → List ℕ → Ask → Answer → Type 0
IsAnswer encoding text question answer = IsAnswerBy (format_of encoding) encoding text question answer

-- what is kept, by what the document is written in
abbrev pub KeepsBy : Option Format → Encoding → List ℕ → Ask → Answer → Type 0
KeepsBy None encoding text question answer = KeepsIfRenamedInGrammar encoding text question answer
KeepsBy (Some format) encoding text question answer = KeepsIfRenamedInDraft format encoding text question answer

-- What is kept where the answer is that to a rename, and grants it; of other questions and of refusals nothing is said. It follows from
-- `IsAnswer` (`renames_keep_the_grammar`).
abbrev pub KeepsIfRenamed : Encoding → List ℕ → Ask → Answer → Type 0
KeepsIfRenamed encoding text question answer = KeepsBy (format_of encoding) encoding text question answer

-- what is shown of a name, with an empty certificate beside the example, if there is one
abbrev pub hover_without_cert : HoverText → HoverText
hover_without_cert hover = record hover { example = option_map (λ example. (example.0, [])) hover.example }

-- what could be inserted, with an empty certificate beside it
abbrev pub insertion_without_cert : Insertion → Insertion
insertion_without_cert insertion = record insertion { cert = [] }

-- an answer with an empty certificate in the place of the one that it holds, if it holds one
abbrev pub without_cert : Answer → Answer
without_cert (answer.Hover hover) = answer.Hover (option_map hover_without_cert hover)
without_cert (answer.Places ranges) = answer.Places ranges
without_cert (answer.Symbols symbols) = answer.Symbols symbols
without_cert (answer.Edits ranges new) = answer.Edits ranges new
without_cert (answer.Refused fault) = answer.Refused fault
without_cert (answer.Insert insertion) = answer.Insert (option_map insertion_without_cert insertion)
without_cert (answer.Numbers numbers) = answer.Numbers numbers
without_cert (answer.Findings diagnostics) = answer.Findings diagnostics
without_cert (answer.Draft given) = answer.Draft given
