use Rattle.ls_answers.proofs.HoverTexts.{some_hover_text}
use Rattle.ls_answers.proofs.laws.hover_texts_exist.Goals as goal

pub returns : goal.returns
returns c = some_hover_text
