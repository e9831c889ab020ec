use Rattle.ls_steps.proofs.ByActs.{says_runs}
use Rattle.ls_steps.proofs.laws.sessions_are_runs.Goals as goal

pub returns : goal.returns
returns c = says_runs
