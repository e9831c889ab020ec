use Rattle.std.proofs.Common.{◌-◌, List}
use Rattle.abnf_digests.specs.BareItems.{BareItem}
use Rattle.incremental_findings.specs.own.Walks.{IsWalk, Leaves}
use Rattle.incremental_findings.proofs.walk.Walk.next.Given as goal

-- what is still to come was so at the start
abbrev pub invariant-lines : goal.invariant-lines
invariant-lines l = record {
  walks : IsWalk l.self;
  leaves : (rest : List BareItem) → Leaves l.self rest → Leaves l.fn.self rest;
}

abbrev pub decreases-lines : goal.decreases-lines
decreases-lines l = l.self.end - l.self.at
