use Rattle.std.proofs.Common.{rules}
use Rattle.abnf_syntax.proofs.spare.emptied.Goals as goal

pub returns : goal.returns
returns = search rules depth 2
