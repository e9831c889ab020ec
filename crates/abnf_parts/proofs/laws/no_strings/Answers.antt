use Rattle.abnf_parts.proofs.Worked.{endless_first, endless_second}
use Rattle.abnf_parts.proofs.laws.no_strings.Goals as goal

pub returns-clause-endless : goal.returns-clause-endless
returns-clause-endless c = endless_first

pub returns-clause-by_endless : goal.returns-clause-by_endless
returns-clause-by_endless c = endless_second
