use Rattle.findings_index.proofs.Marks.{led}
use Rattle.findings_index.proofs.ToldMarks.{told_is}
use Rattle.findings_index.proofs.laws.marks_tell_of_blocks.Goals as goal

pub returns : goal.returns
returns c = λ digests before digest held marks are_held are_led. told_is digests before digest held marks are_held (λ head e none. led digests marks are_led head.0)
