use Rattle.ls_machine.proofs.Steps.{goes_on, nothing_left, taken_finish}
use Rattle.ls_machine.proofs.progress.work_goes_on.Goals as goal

pub returns-clause-on : goal.returns-clause-on
returns-clause-on c = goes_on

pub returns-clause-taken : goal.returns-clause-taken
returns-clause-taken c = taken_finish

pub returns-clause-end : goal.returns-clause-end
returns-clause-end c = nothing_left
