use Rattle.std.proofs.Common.{rules}
use Rattle.near_names.proofs.near.is_compared.Goals as goal

pub returns-then-name-ge-FEWEST : goal.returns-then-name-ge-FEWEST
returns-then-name-ge-FEWEST = search rules depth 3

pub returns-else-name-ge-FEWEST : goal.returns-else-name-ge-FEWEST
returns-else-name-ge-FEWEST = search rules depth 3
