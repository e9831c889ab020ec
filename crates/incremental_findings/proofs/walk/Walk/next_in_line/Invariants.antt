use Rattle.std.proofs.Common.{◌-◌, List, length}
use Rattle.abnf_digests.specs.BareItems.{BareItem}
use Rattle.incremental_findings.specs.own.Walks.{IsWalk, Leaves, StaysIn}
use Rattle.incremental_findings.proofs.walk.Walk.next_in_line.Given as goal

-- what is still to come was so at the start
abbrev pub invariant-loop-self : goal.invariant-loop-self
invariant-loop-self l = record {
  walks : IsWalk l.self;
  leaves : (rest : List BareItem) → Leaves l.self rest → Leaves l.fn.self rest;
  stays : StaysIn l.fn.self l.self;
}

abbrev pub decreases-loop-self : goal.decreases-loop-self
decreases-loop-self l = length l.self.row.marks.now - l.self.next
