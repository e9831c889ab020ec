use Rattle.abnf_lint.proofs.Ascends.{rows_unique}
use Rattle.abnf_lint.proofs.laws.findings_are_unique.Goals as goal

pub returns : goal.returns
returns c = rows_unique
