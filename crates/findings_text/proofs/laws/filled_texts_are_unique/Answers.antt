use Rattle.findings_text.proofs.GapLaws.{one_filled}
use Rattle.findings_text.proofs.laws.filled_texts_are_unique.Goals as goal

pub returns : goal.returns
returns c = one_filled
