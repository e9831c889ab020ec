use Rattle.std.proofs.Common.{suc, sym, ◌∙◌}
use Rattle.ls_steps.proofs.Serving.{room_shrinks, works_end, works_more}
use Rattle.ls_steps.proofs.conversation.Conversation.work.Goals as goal

pub jobs-smaller : goal.jobs-smaller
jobs-smaller c =
    let taken = sym c.if-branch.true ∙ c.in_ok-take.ensures.taken in
    room_shrinks c.jobs.self c.take.new.self c.finish.new.self c.in_ok-take.ensures.steps taken c.in_ok-take.ensures.fits c.in_ok-finish.ensures

pub jobs-preserved : goal.jobs-preserved
jobs-preserved c =
    let taken = sym c.if-branch.true ∙ c.in_ok-take.ensures.taken in
    record { goes_on = λ n h w. c.jobs.invariant.goes_on (suc n) h (works_more c.jobs.self c.take.new.self c.finish.new.self h n c.in_ok-take.ensures.steps taken c.in_ok-finish.ensures w) }

pub returns : goal.returns
returns c =
    let end = works_end c.jobs.self c.take.new.self c.in_ok-take.ensures.steps (sym c.if-branch.false ∙ c.in_ok-take.ensures.taken) in
    c.jobs.invariant.goes_on end.0 c.take.new.self end.1
