use Rattle.std.proofs.Common.{List}
use Rattle.abnf_parts.specs.Names.{Name}
use Rattle.findings_index.specs.own.Ways.{AreSoundByWayFor, count_unmarked}
use Rattle.findings_index.proofs.sweep.sweep_all.Given as goal

abbrev pub invariant-loop-users : goal.invariant-loop-users
invariant-loop-users l = (table : List Name) → AreSoundByWayFor l.way table l.swept.words.now l.swept.blocks.now l.swept.roles.now l.fn.marks → AreSoundByWayFor l.way table l.swept.words.now l.swept.blocks.now l.swept.roles.now l.marks

abbrev pub decreases-loop-users : goal.decreases-loop-users
decreases-loop-users l = count_unmarked l.marks
