-- The laws of answers, of grammars and of drafts.
use Rattle.std.proofs.Common.{◌≡◌, ℕ, ◌<◌, ◌^◌, List, length}
use Rattle.std.specs.Prelude.{All, IfOk, IfSome, Option, None, Some, Result, Ok, Err}
use Rattle.std.specs.Result.{result_ok}
use Rattle.std.specs.Char.{IsScalar}
use Rattle.ls_text.specs.declared.position.Encoding.{Encoding}
use Rattle.draft_grammars.specs.Drafts.{format_of}
use Rattle.draft_grammars.specs.declared.format.Format.{Format}
use Rattle.ls_answers.specs.Answers.{IsAnswer, IsAnswerBy, KeepsBy, KeepsIfRenamed, without_cert}
use Rattle.ls_answers.specs.declared.ask.Ask.{Ask}
use Rattle.ls_answers.specs.declared.answer.Answer.{Answer}
use Rattle.ls_answers.proofs.DraftAnswers.{answer_keeps_in_draft, one_answer_in_draft, some_answer_in_draft}
use Rattle.ls_answers.proofs.Exist.{some_answer}
use Rattle.ls_answers.proofs.OneAnswer.{one_answer}
use Rattle.ls_answers.proofs.RenameKept.{answer_keeps}

module _ (encoding : Encoding) (text : List ℕ) (question : Ask) where
  one_by : (o : Option Format) (a b : Answer) → IsAnswerBy o encoding text question a → IsAnswerBy o encoding text question b → without_cert a ≡ without_cert b
  one_by None a b p q = one_answer encoding text question a b p q
  one_by (Some format) a b p q = one_answer_in_draft format encoding text question a b p q

  pub one_document_answer : (a b : Answer) → IsAnswer encoding text question a → IsAnswer encoding text question b → without_cert a ≡ without_cert b
  one_document_answer a b p q = one_by (format_of encoding) a b p q

  some_by : (o : Option Format) → length text < 2 ^ 62 → (a : Answer) × IsAnswerBy o encoding text question a
  some_by None small = some_answer encoding text question small
  some_by (Some format) small = some_answer_in_draft format encoding text question small

  pub some_document_answer : length text < 2 ^ 62 → (a : Answer) × IsAnswer encoding text question a
  some_document_answer small = some_by (format_of encoding) small

  keeps_by : (o : Option Format) (answer : Answer) → All IsScalar text → IsAnswerBy o encoding text question answer → KeepsBy o encoding text question answer
  keeps_by None answer s h = answer_keeps encoding text question answer s h
  keeps_by (Some format) answer s h = answer_keeps_in_draft format encoding text question answer s h

  pub document_keeps : (answer : Answer) → All IsScalar text → IsAnswer encoding text question answer → KeepsIfRenamed encoding text question answer
  document_keeps answer s h = keeps_by (format_of encoding) answer s h

  -- the same of an answer that may be missing
  pub result_keeps : {E : Type 0} (r : Result Answer E) → All IsScalar text → IfOk r (λ answer. IsAnswer encoding text question answer)
      → IfSome (result_ok r) (λ answer. KeepsIfRenamed encoding text question answer)
  result_keeps (Ok answer) s h = document_keeps answer s h
  result_keeps (Err e) s h = tt
