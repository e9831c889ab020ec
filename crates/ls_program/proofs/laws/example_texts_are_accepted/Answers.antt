use Rattle.ls_program.proofs.Accepted.{accepted}
use Rattle.ls_program.proofs.laws.example_texts_are_accepted.Goals as goal

pub returns : goal.returns
returns c = accepted
