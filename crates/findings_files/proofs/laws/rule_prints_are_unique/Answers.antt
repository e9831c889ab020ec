use Rattle.findings_files.proofs.KnownLaws.{one_rules_with}
use Rattle.findings_files.proofs.laws.rule_prints_are_unique.Goals as goal

pub returns : goal.returns
returns c = one_rules_with
