use Rattle.std.proofs.Common.{rules}
use Rattle.ls_frame.proofs.framer.Framer.end.Goals as goal

pub returns-in-Open-2 : goal.returns-in-Open-2
returns-in-Open-2 = search rules depth 3
