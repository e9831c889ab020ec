use Rattle.std.proofs.Common.{rules}
use Rattle.markdown_blocks.proofs.fence.may_open.Goals as goal

pub returns-then-mark-eq96 : goal.returns-then-mark-eq96
returns-then-mark-eq96 = search rules depth 3
