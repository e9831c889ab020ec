use Rattle.ls_machine.proofs.Steps.{steps_few}
use Rattle.ls_machine.proofs.progress.steps_are_few.Goals as goal

pub returns : goal.returns
returns c = steps_few
