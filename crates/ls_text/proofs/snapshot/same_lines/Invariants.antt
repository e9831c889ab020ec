use Rattle.std.proofs.Common.{ℕ, ◌<◌}
use Rattle.ls_text.proofs.SameLaws.{IsSameAt}
use Rattle.ls_text.proofs.snapshot.same_lines.Given as goal

abbrev pub invariant-loop-i : goal.invariant-loop-i
invariant-loop-i l = (k : ℕ) → k < l.i → IsSameAt l.a l.b k
