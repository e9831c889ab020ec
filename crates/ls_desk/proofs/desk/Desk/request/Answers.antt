use Rattle.std.proofs.Common.{◌++◌, ◌∷◌, [], List, ℕ, Some, sym, ap, ◌∙◌, subst, refl, arith}
use Rattle.ls_machine.specs.declared.event.Event.TheVariants.{Asked}
use Rattle.ls_machine.specs.declared.state.Waiting.{Waiting}
use Rattle.ls_desk.specs.Stands.{Enters, state_of}
use Rattle.ls_desk.proofs.Grows.{Entered, Holds, entered, kept_room, room_for, seen, stands}
use Rattle.ls_desk.proofs.Events.{requested}
use Rattle.ls_desk.proofs.desk.Desk.request.Goals as goal
use Rattle.ls_desk.proofs.desk.Desk.request.Goals.{After-enter}

pub invariant_of-self : goal.invariant_of-self
invariant_of-self c = kept_room _ _ _ _ _ _ _ _ _ _ _ _ c.self.invariant refl c.room_for_job.ensures.waiting refl refl refl c.room_for_job.ensures.journal c.room_for_job.ensures.more

held : (c : After-enter) → Holds (state_of c.args.self.now) c.self.inside.present c.self.inside.outbox.items
held c = stands c.self.inside.history _ _ _ _ _ c.self.invariant c.self.view_is

went : (c : After-enter) → Entered c.args.self.now (Asked c.args.id c.args.uri c.args.question c.args.links c.self.inside.present.next_ticket) c.enter.new.self c.ask-ticket.new.self c.self.inside.outbox.items c.self.inside.max_journal c.self.inside.max_events
went c =
    let e = c.in_ok-asking.ensures in
    let parts = c.into_parts-state.ensures in
    let job = c.into_parts-state.result.1 in
    let few = e.room in
    let room = room_for _ _ _ _ parts.state c.in_ok-room_for_job.ensures.room in
    entered c.self.inside.history _ _ _ _ _ c.into_parts-state.result.0 (Asked c.args.id c.args.uri c.args.question c.args.links c.self.inside.present.next_ticket) _ c.room_for_job.new.journal _ _ _
    c.self.invariant c.self.view_is (parts.state ∙ e.state)
    (requested _ _ _ c.args.id c.args.uri c.args.question c.args.links job _ (held c) (e.job ∙ ap Some (sym parts.job)) e.possible.0 e.possible.1
    c.ask-ticket.ensures.documents
    (c.ask-ticket.ensures.waiting ∙ ap (λ (ws : List Waiting). ws ++ job ∷ []) c.room_for_job.ensures.waiting)
    c.ask-ticket.ensures.version
    c.ask-ticket.ensures.ticket)
    c.room_for_job.ensures.journal c.room_for_job.ensures.ended c.enter.ensures
    (λ i. Asked ((parts.id ∙ e.id) i) c.args.uri ((parts.ask ∙ e.ask) i) c.args.links (c.ask-ticket.ensures.result i))
    (omega arith) (omega arith)

pub invariant_of-self-2 : goal.invariant_of-self-2
invariant_of-self-2 c = (went c).kept

pub returns-clause-ok : goal.returns-clause-ok
returns-clause-ok c =
    let new = seen c.enter.new.self.base c.enter.new.self.events.items c.self.inside.outbox.items c.self.inside.max_journal c.self.inside.max_events c.enter.new.self.events.ended in
    let Q : ℕ → Type 0 = λ ticket. Enters c.args.self.now new (Asked c.args.id c.args.uri c.args.question c.args.links ticket) in
    record { none = c.in_ok-asking.ensures.none; enters = subst Q (sym c.ask-ticket.ensures.result) (went c).enters }
