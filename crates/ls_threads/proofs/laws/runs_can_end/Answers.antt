use Rattle.ls_threads.proofs.Steps.{runs_end}
use Rattle.ls_threads.proofs.laws.runs_can_end.Goals as goal

pub returns : goal.returns
returns c = runs_end
