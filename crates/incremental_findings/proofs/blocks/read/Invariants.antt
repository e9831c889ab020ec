use Rattle.std.proofs.Common.{◌-◌}
use Rattle.incremental_findings.proofs.ReadLaws.{HasRead}
use Rattle.incremental_findings.proofs.blocks.read.Given as goal

abbrev pub invariant-blocks-2 : goal.invariant-blocks-2
invariant-blocks-2 l = HasRead l.sheet l.from l.to l.fn.digests l.first l.digests

abbrev pub decreases-blocks-2 : goal.decreases-blocks-2
decreases-blocks-2 l = l.to - l.first
