use Rattle.ls_answers.proofs.HoverTexts.{one_hover_text}
use Rattle.ls_answers.proofs.laws.hover_texts_are_unique.Goals as goal

pub returns : goal.returns
returns c = one_hover_text
