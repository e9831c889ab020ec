use Rattle.std.proofs.Common.{◌-◌, ◌≤◌, length}
use Rattle.ls_text.specs.own.Alike.{IsSameBack}
use Rattle.ls_text.proofs.part.Part.same_back.Given as goal

abbrev pub invariant-halves : goal.invariant-halves
invariant-halves l = record {
  order : l.low ≤ l.high;
  ours : l.high ≤ length l.self;
  theirs : l.high ≤ length l.other;
  most : l.high ≤ l.most;
  same : IsSameBack l.self l.other l.low;
}

abbrev pub decreases-halves : goal.decreases-halves
decreases-halves l = l.high - l.low
