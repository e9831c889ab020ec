use Rattle.std.proofs.Common.{rules}
use Rattle.xml_blocks.proofs.gather.section_text.Goals as goal

pub returns : goal.returns
returns = search rules depth 3
