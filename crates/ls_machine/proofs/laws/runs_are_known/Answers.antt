use Rattle.ls_machine.proofs.Same.{run_of}
use Rattle.ls_machine.proofs.laws.runs_are_known.Goals as goal

pub returns : goal.returns
returns c = run_of
