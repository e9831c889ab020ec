use Rattle.incremental_findings.proofs.MoveLaws.{HaveMoved}
use Rattle.incremental_findings.proofs.difference.Difference.moved.Given as goal

abbrev pub invariant-loop-found : goal.invariant-loop-found
invariant-loop-found l = HaveMoved l.self l.initial.found-items l.found-items l.found-index
