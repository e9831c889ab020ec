use Rattle.std.proofs.Common.{rules}
use Rattle.abnf_lint.proofs.finding.Finding.message.Goals as goal

pub returns-in-Undefined : goal.returns-in-Undefined
returns-in-Undefined = search rules depth 3
