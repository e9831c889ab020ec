-- What contracts see of a job that has run.
use Rattle.std.specs.Prelude.{ℕ, List, Option}
use Rattle.ls_text.specs.declared.position.Encoding.{Encoding}
use Rattle.ls_answers.specs.declared.ask.Ask.{Ask}
use Rattle.ls_answers.specs.declared.answer.Answer.{Answer}

-- its ticket, its text's characters, its encoding and its question, and the answer, or none where memory was refused
pub record Told : Type 0 where
  pub ticket : ℕ
  pub text : List ℕ
  pub encoding : Encoding
  pub ask : Ask
  pub answer : Option Answer
