use Rattle.findings_index.proofs.WordLaws.{part_run}
use Rattle.findings_index.proofs.evaluate.words_tell_what_holds.Goals as goal

pub returns : goal.returns
returns c = part_run
