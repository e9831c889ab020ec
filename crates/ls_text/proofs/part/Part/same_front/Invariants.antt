use Rattle.std.proofs.Common.{◌-◌, ◌≤◌, length}
use Rattle.ls_text.specs.own.Alike.{IsSameFront}
use Rattle.ls_text.proofs.part.Part.same_front.Given as goal

abbrev pub invariant-halves : goal.invariant-halves
invariant-halves l = record {
  order : l.low ≤ l.high;
  ours : l.high ≤ length l.self;
  theirs : l.high ≤ length l.other;
  same : IsSameFront l.self l.other l.low;
}

abbrev pub decreases-halves : goal.decreases-halves
decreases-halves l = l.high - l.low
