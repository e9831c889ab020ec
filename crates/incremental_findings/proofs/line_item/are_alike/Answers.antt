use Rattle.std.proofs.Common.{rules}
use Rattle.incremental_findings.proofs.line_item.are_alike.Goals as goal

pub returns-then-eq : goal.returns-then-eq
returns-then-eq = search rules depth 3
