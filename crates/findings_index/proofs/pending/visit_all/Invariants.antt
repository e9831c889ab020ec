use Rattle.std.proofs.Common.{◌≤◌, List}
use Rattle.abnf_parts.specs.Names.{Name}
use Rattle.findings_index.specs.own.Ways.{AreSoundByWayFor, count_unmarked}
use Rattle.findings_index.proofs.pending.visit_all.Given as goal

abbrev pub invariant-loop-pending : goal.invariant-loop-pending
invariant-loop-pending l = record {
  sound : (table : List Name) → AreSoundByWayFor l.way table l.swept.words.now l.swept.blocks.now l.swept.roles.now l.fn.marks → AreSoundByWayFor l.way table l.swept.words.now l.swept.blocks.now l.swept.roles.now l.marks;
  few : count_unmarked l.marks ≤ count_unmarked l.fn.marks;
}

abbrev pub decreases-loop-pending : goal.decreases-loop-pending
decreases-loop-pending l = count_unmarked l.marks
