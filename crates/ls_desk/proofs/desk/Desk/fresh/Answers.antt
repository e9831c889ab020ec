use Rattle.std.proofs.Common.{◌≡◌, Some, map, ◌∙◌, subst, rules}
use Rattle.ls_machine.specs.Outs.{entry_for}
use Rattle.ls_desk.specs.Stands.{Seen, fresh}
use Rattle.ls_desk.proofs.Grows.{fresh_is, state_is}
use Rattle.ls_desk.proofs.desk.Desk.fresh.Goals as goal

pub returns : goal.returns
returns c =
    let P : Seen → Type 0 = λ d. Some c.in_ok-state.state ≡ fresh d in
    subst P c.self.view_is
    (fresh_is c.self.inside.history.base c.self.inside.history.events.items c.self.inside.outbox.items c.self.inside.max_journal c.self.inside.max_events c.len.result c.in_ok-state.state
    (c.in_ok-state.ensures
    ∙ ((λ i. record { documents = c.as_slice.ensures.value i; waiting = c.as_slice-2.ensures.value i; unsent = map entry_for c.self.inside.outbox.items; next_version = c.self.inside.present.next_version; next_ticket = c.self.inside.present.next_ticket })
    ∙ state_is _ _ _ _ _ _ _ _ c.self.invariant))
    (search rules)
    c.if-len-self.false)
