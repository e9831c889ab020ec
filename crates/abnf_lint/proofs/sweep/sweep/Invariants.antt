use Rattle.std.proofs.Common.{◌≡◌, ◌≤◌, false, length}
use Rattle.abnf_parts.specs.Part.{parts_of}
use Rattle.abnf_lint.specs.Marks.{AreClosed, AreSound}
use Rattle.abnf_lint.proofs.sweep.sweep.Given as goal

abbrev pub invariant-loop-number : goal.invariant-loop-number
invariant-loop-number l = record {
  within : l.number ≤ length (parts_of l.grammar.rules);
  sound : AreSound l.grammar.rules l.marks;
  closed : l.any ≡ false → AreClosed l.grammar.rules l.marks l.number l.end;
}

abbrev pub decreases-loop-number : goal.decreases-loop-number
decreases-loop-number l = l.number
