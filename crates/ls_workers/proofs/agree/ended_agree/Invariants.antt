use Rattle.std.proofs.Common.{take}
use Rattle.std.specs.Prelude.{All}
use Rattle.ls_workers.specs.Seats.{AreSame}
use Rattle.ls_workers.proofs.agree.ended_agree.Given as goal

abbrev pub invariant-loop-at : goal.invariant-loop-at
invariant-loop-at l = All AreSame (take l.at l.ended)
