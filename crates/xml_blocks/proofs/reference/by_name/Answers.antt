use Rattle.std.proofs.Common.{rules}
use Rattle.xml_blocks.proofs.reference.by_name.Goals as goal

pub returns-then-begins-2 : goal.returns-then-begins-2
returns-then-begins-2 = search rules depth 3

pub returns-then-begins : goal.returns-then-begins
returns-then-begins = search rules depth 3
