use Rattle.std.proofs.Common.{rules}
use Rattle.near_names.proofs.near.reach.Goals as goal

pub returns : goal.returns
returns = search rules depth 3
