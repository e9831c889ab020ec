use Rattle.std.proofs.Common.{rules}
use Rattle.incremental_findings.proofs.difference.Change.between.Goals as goal

pub returns-clause-blocks : goal.returns-clause-blocks
returns-clause-blocks = search rules depth 3
