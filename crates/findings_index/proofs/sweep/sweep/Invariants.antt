use Rattle.std.proofs.Common.{◌≡◌, ◌<◌, ◌≤◌, List, false, true}
use Rattle.abnf_parts.specs.Names.{Name}
use Rattle.findings_index.specs.own.Ways.{AreSoundByWayFor, count_unmarked}
use Rattle.findings_index.proofs.Passing.{AreDoneUpTo}
use Rattle.findings_index.proofs.sweep.sweep.Given as goal

abbrev pub invariant-loop-passed : goal.invariant-loop-passed
invariant-loop-passed l = record {
  sound : (table : List Name) → AreSoundByWayFor l.way table l.swept.words.now l.swept.blocks.now l.swept.roles.now l.fn.marks → AreSoundByWayFor l.way table l.swept.words.now l.swept.blocks.now l.swept.roles.now l.marks;
  done : l.any ≡ false → AreDoneUpTo l.way l.backwards l.swept.words.now l.swept.blocks.now l.swept.roles.now l.marks l.passed;
  few : count_unmarked l.marks ≤ count_unmarked l.fn.marks;
  less : l.any ≡ true → count_unmarked l.marks < count_unmarked l.fn.marks;
}
