use Rattle.std.proofs.Common.{rules}
use Rattle.incremental_findings.proofs.line_item.say_the_same.Goals as goal

pub returns-in-Name : goal.returns-in-Name
returns-in-Name = search rules depth 3
