use Rattle.std.proofs.Common.{◌∙◌, ◌++◌, ◌∷◌, [], ap}
use Rattle.abnf_token.proofs.MarkLaws.{marks_more, marks_done}
use Rattle.abnf_token.proofs.mark.push_marks.Goals as goal

pub loop-token-preserved : goal.loop-token-preserved
loop-token-preserved c =
    marks_more c.in-Some.token c.loop-token.invariant c.in-Some.ensures.steps (c.in_ok-push.ensures.items ∙ ap (λ m. c.loop-token.marks.items ++ m ∷ []) c.mark_of.ensures)

pub returns : goal.returns
returns c = marks_done c.loop-token.invariant c.in-None.ensures.steps
