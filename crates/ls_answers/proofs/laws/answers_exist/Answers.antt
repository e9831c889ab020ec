use Rattle.ls_answers.proofs.Documents.{some_document_answer}
use Rattle.ls_answers.proofs.laws.answers_exist.Goals as goal

pub returns : goal.returns
returns c = some_document_answer
