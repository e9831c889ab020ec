use Rattle.std.proofs.Common.{rules}
use Rattle.abnf_least.proofs.walk.replace.Goals as goal

pub returns-in-Rep : goal.returns-in-Rep
returns-in-Rep = search rules depth 2
