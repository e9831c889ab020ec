use Rattle.std.proofs.Common.{◌≡◌, ◌+◌, vec_len}
use Rattle.std.specs.Prelude.{sum_by}
use Rattle.ls_workers.proofs.crew.gathered.Given as goal

abbrev pub invariant-loop-seat : goal.invariant-loop-seat
invariant-loop-seat g l =
    (l.took.parts + vec_len l.seats ≡ vec_len l.fn.seats)
    × (l.returned.parts + vec_len l.seats ≡ vec_len l.fn.seats)
    × (l.finished.parts + vec_len l.seats ≡ vec_len l.fn.seats)
    × (l.took.amount + sum_by (λ seat. seat.took.share.amount) l.seats.items ≡ sum_by (λ seat. seat.took.share.amount) l.fn.seats.items)
    × (l.returned.amount + sum_by (λ seat. seat.returned.share.amount) l.seats.items ≡ sum_by (λ seat. seat.returned.share.amount) l.fn.seats.items)
    × (l.finished.amount + sum_by (λ seat. seat.finished.share.amount) l.seats.items ≡ sum_by (λ seat. seat.finished.share.amount) l.fn.seats.items)

abbrev pub decreases-loop-seat : goal.decreases-loop-seat
decreases-loop-seat g l = vec_len l.seats
