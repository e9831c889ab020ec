use Rattle.std.proofs.Common.{◌<◌, ℕ, length}
use Rattle.std.specs.Prelude.{IfSome}
use Rattle.incremental_findings.proofs.recent.nearest.Given as goal

abbrev pub invariant-loop-at : goal.invariant-loop-at
invariant-loop-at l = IfSome l.nearest (λ (at : ℕ). at < length l.texts)
