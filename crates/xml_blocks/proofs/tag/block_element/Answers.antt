use Rattle.std.proofs.Common.{rules}
use Rattle.xml_blocks.proofs.tag.block_element.Goals as goal

pub returns-then-is_named : goal.returns-then-is_named
returns-then-is_named = search rules depth 3

pub returns-then-is_named-2 : goal.returns-then-is_named-2
returns-then-is_named-2 = search rules depth 3
