use Rattle.std.proofs.Common.{◌≡◌, length}
use Rattle.abnf_lint.specs.own.Passes.{AreSoundMarks}
use Rattle.abnf_lint.proofs.findings_of.sound_rules.Given as goal

abbrev pub invariant-loop-rule : goal.invariant-loop-rule
invariant-loop-rule l = (length l.marks.items ≡ l.rule) × AreSoundMarks l.grammar.rules l.marks.items
