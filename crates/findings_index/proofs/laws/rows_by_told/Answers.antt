use Rattle.findings_index.proofs.ToldRows.{rows_told}
use Rattle.findings_index.proofs.Unproductive.{names_tell}
use Rattle.findings_index.proofs.laws.rows_by_told.Goals as goal

pub returns : goal.returns
returns c = rows_told names_tell
