use Rattle.findings_text.proofs.GapLaws.{some_filled}
use Rattle.findings_text.proofs.laws.filled_texts_exist.Goals as goal

pub returns : goal.returns
returns c = some_filled
