use Rattle.abnf_lint.specs.Marks.{AreSound}
use Rattle.abnf_lint.proofs.sweep.sweep_rules.Given as goal

abbrev pub invariant-loop-rule : goal.invariant-loop-rule
invariant-loop-rule l = AreSound l.grammar.rules l.marks
