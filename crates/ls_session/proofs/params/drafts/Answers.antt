use Rattle.std.proofs.Common.{rules}
use Rattle.ls_session.proofs.params.drafts.Goals as goal

pub returns : goal.returns
returns = search rules depth 3
