use Rattle.ls_history.proofs.Steps.{schedules}
use Rattle.ls_history.proofs.progress.schedules_end.Goals as goal

pub returns : goal.returns
returns c = schedules
