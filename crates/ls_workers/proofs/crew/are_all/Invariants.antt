use Rattle.std.proofs.Common.{◌≡◌, ◌<◌, ℕ}
use Rattle.std.specs.Prelude.{◌==◌, count_by}
use Rattle.ls_workers.proofs.crew.are_all.Given as goal

abbrev pub invariant-loop-number : goal.invariant-loop-number
invariant-loop-number g l = (number : ℕ) → number < l.number → count_by (λ seat. seat.number == number) l.seats ≡ 1
