use Rattle.ls_history.proofs.Steps.{few_steps, histories_go_on}
use Rattle.ls_history.proofs.progress.work_goes_on.Goals as goal

pub returns-clause-on : goal.returns-clause-on
returns-clause-on c = histories_go_on

pub returns-clause-few : goal.returns-clause-few
returns-clause-few c = few_steps
