use Rattle.findings_text.proofs.RuleLaws.{some_rules}
use Rattle.findings_text.proofs.laws.printed_rules_exist.Goals as goal

pub returns : goal.returns
returns c = some_rules
