use Rattle.findings_index.proofs.Unproductive.{names_tell}
use Rattle.findings_index.proofs.laws.names_tell_what_is_unproductive.Goals as goal

pub returns : goal.returns
returns c = names_tell
