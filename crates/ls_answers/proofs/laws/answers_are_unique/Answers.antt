use Rattle.ls_answers.proofs.Documents.{one_document_answer}
use Rattle.ls_answers.proofs.laws.answers_are_unique.Goals as goal

pub returns : goal.returns
returns c = one_document_answer
