use Rattle.std.proofs.Common.{◌≡◌}
use Rattle.ls_history.proofs.book.Front.add.Given as goal

-- nothing was added yet
abbrev pub invariant-loop : goal.invariant-loop
invariant-loop g l = l.self ≡ l.initial.self
