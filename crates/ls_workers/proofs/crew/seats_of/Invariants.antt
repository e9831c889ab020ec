use Rattle.std.proofs.Common.{◌≡◌, ◌+◌}
use Rattle.ls_workers.proofs.Numbers.{AreFirst}
use Rattle.ls_workers.proofs.crew.seats_of.Given as goal

abbrev pub invariant-loop-number : goal.invariant-loop-number
invariant-loop-number g l =
    ((l.took.parts + l.number ≡ l.workers) × (l.returned.parts + l.number ≡ l.workers) × (l.finished.parts + l.number ≡ l.workers))
    × ((l.took.amount ≡ 0) × (l.returned.amount ≡ 0) × (l.finished.amount ≡ 0))
    × AreFirst (λ seat. seat.mark) (λ seat. seat.number) (λ seat. seat.took.share.amount) (λ seat. seat.returned.share.amount) (λ seat. seat.finished.share.amount) l.mark l.seats.items l.number
