use Rattle.findings_index.proofs.Marks.{held}
use Rattle.findings_index.proofs.laws.marks_tell_what_holds.Goals as goal

pub returns : goal.returns
returns c = held
