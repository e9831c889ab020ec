use Rattle.findings_index.specs.own.Flags.{is_strange_number}
use Rattle.findings_index.proofs.CoreMarks.{AreMarksUpTo}
use Rattle.findings_index.proofs.outcome.strange_marks.Given as goal

abbrev pub invariant-loop-number : goal.invariant-loop-number
invariant-loop-number l = AreMarksUpTo (is_strange_number l.defined l.core) l.number l.marks.items
