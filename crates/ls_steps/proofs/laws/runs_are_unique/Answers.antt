use Rattle.ls_steps.proofs.OneSession.{one_run}
use Rattle.ls_steps.proofs.laws.runs_are_unique.Goals as goal

pub returns : goal.returns
returns c = one_run
