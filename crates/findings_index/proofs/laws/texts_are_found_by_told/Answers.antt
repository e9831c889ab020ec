use Rattle.findings_index.proofs.FoundRows.{rows_are_found}
use Rattle.findings_index.proofs.Unproductive.{names_tell}
use Rattle.findings_index.proofs.laws.texts_are_found_by_told.Goals as goal

pub returns : goal.returns
returns c = rows_are_found names_tell
