use Rattle.ls_program.proofs.Accepted.{some_example}
use Rattle.ls_program.proofs.laws.example_texts_exist.Goals as goal

pub returns : goal.returns
returns c = some_example
