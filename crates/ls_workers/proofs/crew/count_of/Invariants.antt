use Rattle.std.proofs.Common.{◌≡◌, take}
use Rattle.std.specs.Prelude.{◌==◌, count_by}
use Rattle.ls_workers.proofs.crew.count_of.Given as goal

abbrev pub invariant-loop-seat : goal.invariant-loop-seat
invariant-loop-seat g l = l.count ≡ count_by (λ seat. seat.number == l.number) (take l.seat-index l.seats)
