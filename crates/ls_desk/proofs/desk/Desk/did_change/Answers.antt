use Rattle.std.proofs.Common.{◌≡◌, ◌+◌, ◌++◌, List, length, ap, ◌∙◌, refl, sym, arith, length-append}
use Rattle.ls_machine.specs.declared.event.Event.TheVariants.{Changed}
use Rattle.ls_machine.specs.declared.event.Out.{Out}
use Rattle.ls_machine.specs.declared.state.Waiting.{Waiting}
use Rattle.ls_desk.specs.Stands.{Enters, state_of}
use Rattle.std.proofs.lemmas.Int.{to_z-of_z}
use Rattle.std.proofs.Common.{subst, ℕ}
use Rattle.std.specs.Prelude.{Option}
use Rattle.ls_machine.specs.Machine.{version_if, going_on}
use Rattle.ls_desk.specs.own.Puts.{jobs_of}
use Rattle.ls_desk.proofs.Grows.{Entered, Holds, entered, kept_room, room_for, seen, stands}
use Rattle.ls_desk.proofs.Events.{changed}
use Rattle.ls_desk.proofs.desk.Desk.did_change.Goals as goal
use Rattle.ls_desk.proofs.desk.Desk.did_change.Goals.{After-enter}

pub invariant_of-self : goal.invariant_of-self
invariant_of-self c = kept_room _ _ _ _ _ _ _ _ _ _ _ _ c.self.invariant refl c.room_for_next.ensures.waiting refl refl refl refl (omega arith)

pub invariant_of-self-in_err-put_replies : goal.invariant_of-self-in_err-put_replies
invariant_of-self-in_err-put_replies c =
    let e = c.put_replies.ensures in
    kept_room _ _ _ _ _ _ _ _ _ _ _ _ c.self.invariant refl c.room_for_next.ensures.waiting refl refl c.in_err-put_replies.ensures.same e.journal e.more

longer : (c : After-enter) → length c.put_replies.new.outbox.items ≡ length c.self.inside.outbox.items + length c.in_ok-change.change.ending.replies.items
longer c = ap length c.in_ok-put_replies.ensures.outbox ∙ length-append c.self.inside.outbox.items c.in_ok-change.change.ending.replies.items

held : (c : After-enter) → Holds (state_of c.args.self.now) c.self.inside.present c.self.inside.outbox.items
held c = stands c.self.inside.history _ _ _ _ _ c.self.invariant c.self.view_is

went : (c : After-enter) → Entered c.args.self.now (Changed c.args.uri c.args.label c.args.edits (version_if c.self.inside.present.next_version c.into_parts-state.result.1)) c.enter.new.self c.change-version.new.self c.put_replies.new.outbox.items c.self.inside.max_journal c.self.inside.max_events
went c =
    let e = c.in_ok-change.ensures in
    let parts = c.into_parts-state.ensures in
    let next = c.into_parts-state.result.1 in
    let few = e.room in
    let room = room_for _ _ _ _ parts.state c.in_ok-put_replies.ensures.room in
    let more = longer c in
    entered c.self.inside.history _ _ _ _ _ c.into_parts-state.result.0 (Changed c.args.uri c.args.label c.args.edits (version_if c.self.inside.present.next_version next)) _ c.put_replies.new.journal _ _ _
    c.self.invariant c.self.view_is (parts.state ∙ (c.put_replies.ensures.state ∙ e.state))
    (changed _ _ _ c.args.uri c.args.label c.args.edits next _ _ (held c) e.open (parts.next ∙ (simp (to_z-of_z, c.ranges.label) at e.next))
    c.change-version.ensures.documents
    (c.change-version.ensures.waiting ∙ ap (λ (ws : List Waiting). going_on c.args.uri ws ++ jobs_of next) c.room_for_next.ensures.waiting)
    c.change-version.ensures.version
    c.change-version.ensures.ticket
    (c.in_ok-put_replies.ensures.outbox ∙ ap (λ (os : List Out). c.self.inside.outbox.items ++ os) e.replies))
    c.put_replies.ensures.journal c.put_replies.ensures.ended (simp (to_z-of_z, c.ranges.label) at c.enter.ensures)
    (λ i. Changed c.args.uri c.args.label ((parts.edits ∙ e.edits) i) (c.change-version.ensures.result i))
    (omega arith) (omega arith)

pub invariant_of-self-2 : goal.invariant_of-self-2
invariant_of-self-2 c = (went c).kept

pub returns-clause-ok : goal.returns-clause-ok
returns-clause-ok c =
    let new = seen c.enter.new.self.base c.enter.new.self.events.items c.put_replies.new.outbox.items c.self.inside.max_journal c.self.inside.max_events c.enter.new.self.events.ended in
    let Q : Option ℕ → Type 0 = λ version. Enters c.args.self.now new (Changed c.args.uri c.args.label c.args.edits version) in
    record { none = c.in_ok-change.ensures.none; enters = subst Q (sym c.change-version.ensures.result) (went c).enters }
