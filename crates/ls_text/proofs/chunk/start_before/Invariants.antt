use Rattle.std.proofs.Common.{◌-◌, ◌<◌, ◌≤◌, length, get_or}
use Rattle.ls_text.proofs.chunk.start_before.Given as goal

abbrev pub invariant-halves : goal.invariant-halves
invariant-halves l = record {
  some : l.low < l.high;
  high_le : l.high ≤ length l.starts;
  low_le : get_or l.starts l.low 0 ≤ l.offset;
  above : l.high < length l.starts → l.offset < get_or l.starts l.high 0;
}

abbrev pub decreases-halves : goal.decreases-halves
decreases-halves l = l.high - l.low
