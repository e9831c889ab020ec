use Rattle.findings_index.proofs.Undefined.{for_nothing}
use Rattle.findings_index.proofs.laws.names_stand_for_nothing.Goals as goal

pub returns : goal.returns
returns c = for_nothing
