use Rattle.ls_plain.proofs.Serving.{ready_next}
use Rattle.ls_plain.proofs.serve.AnsweringListener.hear.Goals as goal

pub returns-clause-ready : goal.returns-clause-ready
returns-clause-ready g c = ready_next _ _ _ _ _ _ c.requires.0 c.answer.ensures.answers
