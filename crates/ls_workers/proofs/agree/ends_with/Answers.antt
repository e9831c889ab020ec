use Rattle.std.proofs.Common.{rules}
use Rattle.ls_workers.proofs.agree.ends_with.Goals as goal

pub returns-in-Some : goal.returns-in-Some
returns-in-Some = search rules depth 3
