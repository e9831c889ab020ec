use Rattle.std.proofs.Common.{◌≡◌, ◌+◌, ◌++◌, List, ℕ, sym, ap, ◌∙◌, subst, refl, arith}
use Rattle.std.specs.Prelude.{Some}
use Rattle.ls_machine.specs.declared.event.Event.TheVariants.{Opened}
use Rattle.ls_machine.specs.declared.state.Document.{Document}
use Rattle.ls_machine.specs.declared.state.Waiting.{Waiting}
use Rattle.ls_desk.specs.Stands.{Enters, state_of}
use Rattle.std.proofs.lemmas.Int.{to_z-of_z}
use Rattle.ls_desk.specs.own.Puts.{documents_of, jobs_of}
use Rattle.ls_desk.proofs.Grows.{Entered, Holds, entered, kept_room, room_for, seen, stands}
use Rattle.ls_desk.proofs.Events.{opened}
use Rattle.ls_desk.proofs.desk.Desk.put_open.Goals as goal
use Rattle.ls_desk.proofs.desk.Desk.put_open.Goals.{After-enter}

pub invariant_of-self : goal.invariant_of-self
invariant_of-self c =
    let e = c.room_for_text.ensures in
    kept_room _ _ _ _ _ _ _ _ _ _ _ _ c.self.invariant e.documents e.waiting e.version e.ticket refl e.journal e.more

version_is : (c : After-enter) → c.open-version.result ≡ c.self.inside.present.next_version
version_is c = c.open-version.ensures.result ∙ c.room_for_text.ensures.version

held : (c : After-enter) → Holds (state_of c.args.self.now) c.self.inside.present c.self.inside.outbox.items
held c = stands c.self.inside.history _ _ _ _ _ c.self.invariant c.self.view_is

went : (c : After-enter) → Entered c.args.self.now (Opened c.args.uri c.args.label c.args.text c.args.encoding c.self.inside.present.next_version) c.enter.new.self c.open-version.new.self c.self.inside.outbox.items c.self.inside.max_journal c.self.inside.max_events
went c =
    let e = c.in_ok-opening.ensures in
    let parts = c.into_parts-state.ensures in
    let next = c.into_parts-state.result.1 in
    let few = c.requires.room in
    let room = room_for _ _ _ _ parts.state c.in_ok-room_for_text.ensures.room in
    entered c.self.inside.history _ _ _ _ _ c.into_parts-state.result.0 (Opened c.args.uri c.args.label c.args.text c.args.encoding c.self.inside.present.next_version) _ c.room_for_text.new.journal _ _ _
    c.self.invariant c.self.view_is (parts.state ∙ e.state)
    (opened _ _ _ c.args.uri c.args.label c.args.text c.args.encoding next _ (held c) c.requires.possible.0 c.requires.possible.1
    c.requires.fits
    (ap Some parts.next ∙ (simp (to_z-of_z, c.ranges.label) at e.next))
    (c.open-version.ensures.documents ∙ ap (λ (ds : List Document). ds ++ documents_of (Some next)) c.room_for_text.ensures.documents)
    (c.open-version.ensures.waiting ∙ ap (λ (ws : List Waiting). ws ++ jobs_of (Some next)) c.room_for_text.ensures.waiting)
    (c.open-version.ensures.version ∙ ap (λ n. n + 1) c.room_for_text.ensures.version)
    (c.open-version.ensures.ticket ∙ ap (λ n. n + 1) c.room_for_text.ensures.ticket))
    c.room_for_text.ensures.journal c.room_for_text.ensures.ended (simp (to_z-of_z, c.ranges.label) at c.enter.ensures)
    (λ i. Opened c.args.uri c.args.label c.args.text c.args.encoding (version_is c i))
    (omega arith) (omega arith)

pub invariant_of-self-2 : goal.invariant_of-self-2
invariant_of-self-2 c = (went c).kept

pub returns-clause-ok : goal.returns-clause-ok
returns-clause-ok c =
    let R : ℕ → Type 0 = λ version. Enters c.args.self.now (seen c.enter.new.self.base c.enter.new.self.events.items c.self.inside.outbox.items c.self.inside.max_journal c.self.inside.max_events c.enter.new.self.events.ended) (Opened c.args.uri c.args.label c.args.text c.args.encoding version) in
    subst R (sym (version_is c)) (went c).enters
