use Rattle.std.proofs.Common.{rules}
use Rattle.xml_blocks.proofs.reference.numbered.Goals as goal

pub returns-in_default : goal.returns-in_default
returns-in_default = search rules depth 3

pub returns-in-Some-number : goal.returns-in-Some-number
returns-in-Some-number = search rules depth 3

pub returns-in-None : goal.returns-in-None
returns-in-None = search rules depth 3
