use Rattle.ls_answers.proofs.Documents.{document_keeps}
use Rattle.ls_answers.proofs.laws.renames_keep_the_grammar.Goals as goal

pub returns : goal.returns
returns c = document_keeps
