use Rattle.std.proofs.Common.{rules}
use Rattle.abnf_least.proofs.given.entry_given.Goals as goal

pub returns-in_default-clause-value : goal.returns-in_default-clause-value
returns-in_default-clause-value = search rules depth 2
