use Rattle.ls_threads.proofs.Runs.{runs_journals}
use Rattle.ls_threads.proofs.laws.runs_are_journals.Goals as goal

pub returns : goal.returns
returns c = runs_journals
