use Rattle.std.proofs.Common.{rules}
use Rattle.xml_blocks.proofs.piece.markup.Goals as goal

pub returns-then-begins : goal.returns-then-begins
returns-then-begins = search rules depth 3
