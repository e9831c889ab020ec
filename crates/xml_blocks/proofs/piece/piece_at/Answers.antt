use Rattle.std.proofs.Common.{rules}
use Rattle.xml_blocks.proofs.piece.piece_at.Goals as goal

pub returns-then-c-eq38 : goal.returns-then-c-eq38
returns-then-c-eq38 = search rules depth 3

pub returns : goal.returns
returns = search rules depth 3
