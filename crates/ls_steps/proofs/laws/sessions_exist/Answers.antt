use Rattle.ls_steps.proofs.SomeSession.{some_session}
use Rattle.ls_steps.proofs.laws.sessions_exist.Goals as goal

pub returns : goal.returns
returns c = some_session
