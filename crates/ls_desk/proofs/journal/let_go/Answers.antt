use Rattle.std.proofs.Common.{◌∙◌, ◌++◌, List, drop, ap, take-append-drop}
use Rattle.ls_machine.specs.declared.event.Event.{Event}
use Rattle.ls_desk.proofs.journal.let_go.Goals as goal

pub returns : goal.returns
returns c =
    let past = c.args.past.now.items in
    let n = c.saturating_sub.result in
    let rest = drop n past in
    (rest, ap (λ (es : List Event). es ++ rest) (c.give_room_back.ensures ∙ c.truncate.ensures.items) ∙ take-append-drop n past)
