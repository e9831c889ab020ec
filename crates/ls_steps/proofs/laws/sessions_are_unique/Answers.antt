use Rattle.ls_steps.proofs.OneSession.{one_session}
use Rattle.ls_steps.proofs.laws.sessions_are_unique.Goals as goal

pub returns : goal.returns
returns c = one_session
