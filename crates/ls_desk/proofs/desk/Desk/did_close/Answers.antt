use Rattle.std.proofs.Common.{◌≡◌, ◌+◌, ◌++◌, List, length, refl, ap, ◌∙◌, arith, length-append}
use Rattle.std.specs.Prelude.{is_some}
use Rattle.ls_machine.specs.declared.event.Event.TheVariants.{Closed}
use Rattle.ls_machine.specs.declared.event.Out.{Out}
use Rattle.ls_desk.specs.Stands.{state_of}
use Rattle.ls_desk.proofs.Grows.{Entered, Holds, entered, kept_room, room_for, stands}
use Rattle.ls_desk.proofs.Events.{closed}
use Rattle.ls_desk.proofs.desk.Desk.did_close.Goals as goal
use Rattle.ls_desk.proofs.desk.Desk.did_close.Goals.{After-enter}

pub invariant_of-self : goal.invariant_of-self
invariant_of-self c =
    let e = c.put_replies.ensures in
    kept_room _ _ _ _ _ _ _ _ _ _ _ _ c.self.invariant refl refl refl refl c.in_err-put_replies.ensures.same e.journal e.more

longer : (c : After-enter) → length c.put_replies.new.outbox.items ≡ length c.self.inside.outbox.items + length c.in_ok-ending.ending.replies.items
longer c = ap length c.in_ok-put_replies.ensures.outbox ∙ length-append c.self.inside.outbox.items c.in_ok-ending.ending.replies.items

held : (c : After-enter) → Holds (state_of c.args.self.now) c.self.inside.present c.self.inside.outbox.items
held c = stands c.self.inside.history _ _ _ _ _ c.self.invariant c.self.view_is

went : (c : After-enter) → Entered c.args.self.now (Closed c.args.uri) c.enter.new.self c.close.new.self c.put_replies.new.outbox.items c.self.inside.max_journal c.self.inside.max_events
went c =
    let few = c.in_ok-ending.ensures.room in
    let room = room_for _ _ _ _ c.into_state-state.ensures c.in_ok-put_replies.ensures.room in
    let more = longer c in
    entered c.self.inside.history _ _ _ _ _ c.into_state-state.result (Closed c.args.uri) _ c.put_replies.new.journal _ _ _ c.self.invariant c.self.view_is (c.into_state-state.ensures ∙ (c.put_replies.ensures.state ∙ c.in_ok-ending.ensures.state))
    (closed _ _ _ c.args.uri _ _ (held c) (ap is_some c.in_ok-ending.ensures.document)
    c.close.ensures.documents c.close.ensures.waiting c.close.ensures.version c.close.ensures.ticket
    (c.in_ok-put_replies.ensures.outbox ∙ ap (λ (os : List Out). c.self.inside.outbox.items ++ os) c.in_ok-ending.ensures.replies))
    c.put_replies.ensures.journal c.put_replies.ensures.ended c.enter.ensures refl (omega arith) (omega arith)

pub invariant_of-self-2 : goal.invariant_of-self-2
invariant_of-self-2 c = (went c).kept

pub returns-clause-ok : goal.returns-clause-ok
returns-clause-ok c = record { none = c.in_ok-ending.ensures.none; enters = (went c).enters }
