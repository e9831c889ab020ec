use Rattle.std.proofs.Common.{rules}
use Rattle.ls_machine.proofs.find.ends_by_change.Goals as goal

pub returns-in_default : goal.returns-in_default
returns-in_default = search rules depth 3
