use Rattle.std.proofs.Common.{◌≡◌, length}
use Rattle.findings_index.proofs.pending.mark_next.Given as goal

abbrev pub invariant-loop-place : goal.invariant-loop-place
invariant-loop-place l = l.marks ≡ l.fn.marks

abbrev pub decreases-loop-place : goal.decreases-loop-place
decreases-loop-place l = length l.pending
