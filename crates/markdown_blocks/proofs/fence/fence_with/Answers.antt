use Rattle.std.proofs.Common.{rules}
use Rattle.markdown_blocks.proofs.fence.fence_with.Goals as goal

pub returns : goal.returns
returns = search rules depth 3
