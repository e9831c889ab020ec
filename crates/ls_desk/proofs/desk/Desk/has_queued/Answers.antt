use Rattle.std.proofs.Common.{rules}
use Rattle.ls_desk.proofs.desk.Desk.has_queued.Goals as goal

pub returns : goal.returns
returns = search rules depth 3
