use Rattle.abnf_lint.proofs.YieldLaw.{yielding_is_generating}
use Rattle.abnf_lint.proofs.laws.yielding_is_generating.Goals as goal

pub returns : goal.returns
returns c = yielding_is_generating
