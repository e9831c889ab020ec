use Rattle.incremental_findings.proofs.FindLaws.{AreFoundUpTo}
use Rattle.incremental_findings.proofs.blocks.KeptBlocks.findings.Given as goal

abbrev pub invariant-loop-at : goal.invariant-loop-at
invariant-loop-at l = AreFoundUpTo l.sheet l.self l.outcome l.at l.found
