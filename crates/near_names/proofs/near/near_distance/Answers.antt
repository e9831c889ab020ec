use Rattle.std.proofs.Common.{rules}
use Rattle.near_names.proofs.near.near_distance.Goals as goal

pub returns-then-letters-reach : goal.returns-then-letters-reach
returns-then-letters-reach = search rules depth 3

pub returns-else-letters-reach : goal.returns-else-letters-reach
returns-else-letters-reach = search rules depth 3
