use Rattle.abnf_parts.proofs.NeededLaws.{none_long}
use Rattle.abnf_parts.proofs.core_rule.is_core_name.Goals as goal

pub returns-else-name-le-LONGEST_NAME : goal.returns-else-name-le-LONGEST_NAME
returns-else-name-le-LONGEST_NAME c = none_long c.args.name.0.now c.if-name-le-LONGEST_NAME.false
