use Rattle.std.proofs.Common.{◌≤◌}
use Rattle.incremental_findings.specs.own.Parts.{IsBack}
use Rattle.incremental_findings.proofs.difference.up_to_back.Given as goal

abbrev pub invariant-loop-old : goal.invariant-loop-old
invariant-loop-old l = record {
  back : IsBack l.ours l.theirs l.old l.new;
  order : (l.front ≤ l.old) × (l.front ≤ l.new);
}

abbrev pub decreases-loop-old : goal.decreases-loop-old
decreases-loop-old l = l.old
