use Rattle.std.proofs.Common.{◌+◌, ◌≤◌}
use Rattle.incremental_findings.proofs.recent.same_samples.Given as goal

abbrev pub invariant-loop-number : goal.invariant-loop-number
invariant-loop-number l = l.same ≤ l.number + l.number
