use Rattle.std.proofs.Common.{◌≤◌, ◌-◌}
use Rattle.abnf_least.specs.own.Sweeps.{AreSweepsOf}
use Rattle.abnf_least.proofs.sweep.Sweeps.sweep_parts.Given as goal

abbrev pub invariant-loop-at : goal.invariant-loop-at
invariant-loop-at l = AreSweepsOf l.grammar.rules l.self × (l.at ≤ l.end)

abbrev pub decreases-loop-at : goal.decreases-loop-at
decreases-loop-at l = l.at - l.start
