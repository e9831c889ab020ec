use Rattle.std.proofs.Common.{List}
use Rattle.abnf_digests.specs.BareItems.{BareItem, AreBareItems}
use Rattle.incremental_findings.specs.own.Walks.{IsWalk, Leaves, SayTheSame}
use Rattle.incremental_findings.proofs.walk.say_the_same.Given as goal

-- where the same bare items come next in both, all are the same
abbrev pub invariant-loop-at : goal.invariant-loop-at
invariant-loop-at l = record {
  walks : IsWalk l.walk;
  same : (rest : List BareItem) → AreBareItems l.ours l.at l.to rest → Leaves l.walk rest → SayTheSame l.ours l.from l.to l.theirs l.there l.end;
}
