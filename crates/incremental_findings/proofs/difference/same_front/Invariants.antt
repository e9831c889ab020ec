use Rattle.std.proofs.Common.{◌-◌}
use Rattle.incremental_findings.specs.own.Parts.{IsFront}
use Rattle.incremental_findings.proofs.difference.same_front.Given as goal

abbrev pub invariant-loop-front : goal.invariant-loop-front
invariant-loop-front l = IsFront l.ours l.theirs l.front

abbrev pub decreases-loop-front : goal.decreases-loop-front
decreases-loop-front l = l.most - l.front
