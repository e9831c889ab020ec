use Rattle.findings_index.proofs.Marks.{led}
use Rattle.findings_index.proofs.laws.marks_tell_what_leads.Goals as goal

pub returns : goal.returns
returns c = led
