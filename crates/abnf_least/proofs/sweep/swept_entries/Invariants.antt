use Rattle.abnf_least.specs.own.Sweeps.{AreSweepsOf}
use Rattle.abnf_least.proofs.sweep.swept_entries.Given as goal

abbrev pub invariant-loop-round : goal.invariant-loop-round
invariant-loop-round l = AreSweepsOf l.grammar.rules l.sweeps
