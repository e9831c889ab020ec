use Rattle.std.proofs.Common.{rules}
use Rattle.abnf_lint.proofs.block.join_heads.Goals as goal

pub returns-clause-joined : goal.returns-clause-joined
returns-clause-joined = search rules depth 3
