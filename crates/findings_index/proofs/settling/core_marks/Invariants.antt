use Rattle.findings_index.specs.own.Ways.{is_of_core}
use Rattle.findings_index.proofs.CoreMarks.{AreMarksUpTo}
use Rattle.findings_index.proofs.settling.core_marks.Given as goal

abbrev pub invariant-loop-number : goal.invariant-loop-number
invariant-loop-number l = AreMarksUpTo (is_of_core l.names l.defined) l.number l.marks.items
