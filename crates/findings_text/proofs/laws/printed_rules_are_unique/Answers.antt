use Rattle.findings_text.proofs.RuleLaws.{one_rules}
use Rattle.findings_text.proofs.laws.printed_rules_are_unique.Goals as goal

pub returns : goal.returns
returns c = one_rules
