use Rattle.ls_steps.proofs.SomeSession.{some_run}
use Rattle.ls_steps.proofs.laws.runs_exist.Goals as goal

pub returns : goal.returns
returns c = some_run
