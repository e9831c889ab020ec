use Rattle.findings_text.proofs.PrintLaws.{one_print}
use Rattle.findings_text.proofs.laws.printed_texts_are_unique.Goals as goal

pub returns : goal.returns
returns c = one_print
