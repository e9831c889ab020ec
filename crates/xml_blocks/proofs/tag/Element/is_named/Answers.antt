use Rattle.std.proofs.Common.{rules}
use Rattle.xml_blocks.proofs.tag.Element.is_named.Goals as goal

pub returns-then-begins : goal.returns-then-begins
returns-then-begins = search rules depth 3

pub returns-else-begins : goal.returns-else-begins
returns-else-begins = search rules depth 3
