use Rattle.abnf_least.specs.own.Sweeps.{AreSweepsOf}
use Rattle.abnf_least.proofs.sweep.Sweeps.sweep.Given as goal

abbrev pub invariant-loop-passed : goal.invariant-loop-passed
invariant-loop-passed l = AreSweepsOf l.grammar.rules l.self
