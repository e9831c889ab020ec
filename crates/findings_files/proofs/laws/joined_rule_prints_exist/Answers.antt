use Rattle.findings_files.proofs.KnownLaws.{some_rules_with}
use Rattle.findings_files.proofs.laws.joined_rule_prints_exist.Goals as goal

pub returns : goal.returns
returns c = some_rules_with
