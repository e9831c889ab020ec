use Rattle.std.proofs.Common.{◌≡◌, List, refl, ap, ◌∙◌, arith}
use Rattle.std.specs.Prelude.{Some, None, position}
use Rattle.ls_machine.specs.declared.event.Event.TheVariants.{Returned}
use Rattle.ls_machine.specs.declared.state.Waiting.{Waiting}
use Rattle.ls_machine.specs.Machine.{is_held}
use Rattle.ls_desk.specs.Stands.{state_of}
use Rattle.ls_desk.proofs.Grows.{Entered, Holds, entered, kept_room, stands}
use Rattle.ls_desk.proofs.Events.{returned}
use Rattle.ls_desk.proofs.desk.Desk.give_back.Goals as goal
use Rattle.ls_desk.proofs.desk.Desk.give_back.Goals.{After-enter}

pub invariant_of-self : goal.invariant_of-self
invariant_of-self c = kept_room _ _ _ _ _ _ _ _ _ _ _ _ c.self.invariant refl refl refl refl refl c.room_for_event.ensures.journal c.room_for_event.ensures.more

held : (c : After-enter) → Holds (state_of c.args.self.now) c.self.inside.present c.self.inside.outbox.items
held c = stands c.self.inside.history _ _ _ _ _ c.self.invariant c.self.view_is

at_place : (c : After-enter) → position (is_held c.args.ticket) c.self.inside.present.waiting.items ≡ Some c.in_ok-at.at
at_place c = ap (λ (ws : List Waiting). position (is_held c.args.ticket) ws) (held c).waiting_are ∙ c.in_ok-at.ensures.at

went : (c : After-enter) → Entered c.args.self.now (Returned c.args.ticket) c.enter.new.self c.give_back.new.self c.self.inside.outbox.items c.self.inside.max_journal c.self.inside.max_events
went c =
    let few = c.in_ok-at.ensures.room in
    let room = c.in_ok-room_for_event.ensures.room in
    entered c.self.inside.history _ _ _ _ _ None (Returned c.args.ticket) _ c.room_for_event.new.journal _ _ _ c.self.invariant c.self.view_is refl
    (returned _ _ _ c.args.ticket _ (held c) c.in_ok-at.ensures.there
    c.give_back.ensures.documents (c.give_back.ensures.waiting (is_held c.args.ticket) (at_place c)) c.give_back.ensures.version c.give_back.ensures.ticket)
    c.room_for_event.ensures.journal c.room_for_event.ensures.ended c.enter.ensures refl (omega arith) (omega arith)

pub invariant_of-self-2 : goal.invariant_of-self-2
invariant_of-self-2 c = (went c).kept

pub returns-clause-ok : goal.returns-clause-ok
returns-clause-ok c = record { none = c.in_ok-at.ensures.none; enters = (went c).enters }
