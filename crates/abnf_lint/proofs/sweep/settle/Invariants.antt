use Rattle.abnf_lint.specs.Marks.{AreSound}
use Rattle.abnf_lint.proofs.sweep.settle.Given as goal

abbrev pub invariant-loop-round : goal.invariant-loop-round
invariant-loop-round l = AreSound l.grammar.rules l.marks
