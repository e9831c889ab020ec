use Rattle.std.proofs.Common.{rules}
use Rattle.xml_blocks.proofs.gather.put_piece.Goals as goal

pub returns-in-Section : goal.returns-in-Section
returns-in-Section = search rules depth 3

pub returns-in-Reference : goal.returns-in-Reference
returns-in-Reference = search rules depth 3

pub returns-in-Comment : goal.returns-in-Comment
returns-in-Comment = search rules depth 3
