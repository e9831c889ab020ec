use Rattle.std.proofs.Common.{◌≡◌}
use Rattle.ls_history.proofs.book.Front.follow.Given as goal

-- nothing was seen yet
abbrev pub invariant-loop : goal.invariant-loop
invariant-loop g l = l.self ≡ l.initial.self
