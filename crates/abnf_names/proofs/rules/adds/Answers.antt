use Rattle.std.proofs.Common.{rules}
use Rattle.abnf_names.proofs.rules.adds.Goals as goal

pub returns-in-Some : goal.returns-in-Some
returns-in-Some = search rules depth 4
