use Rattle.std.proofs.Common.{rules}
use Rattle.ls_desk.proofs.desk.Desk.is_idle.Goals as goal

pub returns : goal.returns
returns = search rules depth 3
