use Rattle.std.proofs.Common.{rules}
use Rattle.abnf_parts.proofs.leaf.repeat_bounds.Goals as goal

pub returns-else-has : goal.returns-else-has
returns-else-has = search rules depth 3
