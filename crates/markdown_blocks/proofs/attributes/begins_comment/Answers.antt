use Rattle.std.proofs.Common.{rules}
use Rattle.markdown_blocks.proofs.attributes.begins_comment.Goals as goal

pub returns-then-begins : goal.returns-then-begins
returns-then-begins = search rules depth 3
