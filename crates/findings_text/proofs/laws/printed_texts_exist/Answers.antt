use Rattle.findings_text.proofs.PrintLaws.{some_print}
use Rattle.findings_text.proofs.laws.printed_texts_exist.Goals as goal

pub returns : goal.returns
returns c = some_print
