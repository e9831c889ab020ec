use Rattle.std.proofs.Common.{◌≡◌}
use Rattle.ls_workers.proofs.worker.work.Given as goal

abbrev pub invariant-loop : goal.invariant-loop
invariant-loop g l = (l.seat.mark ≡ l.initial.seat.mark) × (l.seat.number ≡ l.initial.seat.number)
