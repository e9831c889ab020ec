use Rattle.abnf_lint.proofs.FindingsExist.{some_findings}
use Rattle.abnf_lint.proofs.laws.findings_exist.Goals as goal

pub returns : goal.returns
returns c = some_findings
