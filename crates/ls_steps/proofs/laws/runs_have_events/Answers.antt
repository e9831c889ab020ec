use Rattle.ls_steps.proofs.Coming.{run_events}
use Rattle.ls_steps.proofs.laws.runs_have_events.Goals as goal

pub returns : goal.returns
returns c = run_events
