use Rattle.std.proofs.Common.{arith}
use Rattle.std.proofs.lemmas.Grind.{common_steps}
use Rattle.markdown_blocks.proofs.fence.Fence.closes.Goals as goal

pub returns-then-count-self : goal.returns-then-count-self
returns-then-count-self = grind (arith, common_steps)
