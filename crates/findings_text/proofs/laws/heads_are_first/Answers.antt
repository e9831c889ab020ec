use Rattle.findings_text.proofs.HeadLaws.{first_heads}
use Rattle.findings_text.proofs.laws.heads_are_first.Goals as goal

pub returns : goal.returns
returns c = first_heads
