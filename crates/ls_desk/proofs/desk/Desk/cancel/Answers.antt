use Rattle.std.proofs.Common.{◌≡◌, ◌+◌, ◌≤◌, ◌++◌, List, ℕ, length, sym, ap, ◌∙◌, subst, refl, arith, length-append}
use Rattle.std.specs.Prelude.{ℤ, Some, None, position, find, Option, true, false}
use Rattle.ls_machine.specs.declared.event.Event.TheVariants.{Cancelled}
use Rattle.ls_machine.specs.declared.event.Out.{Out}
use Rattle.ls_machine.specs.declared.state.Request.{Request}
use Rattle.ls_machine.specs.declared.state.Waiting.{Waiting}
use Rattle.ls_machine.specs.Machine.{asks_with, told_if_found, told_end, told_to, request_cancelled}
use Rattle.ls_desk.specs.Stands.{failed, state_of, used}
use Rattle.ls_desk.proofs.Grows.{Entered, Holds, entered, kept_room, stands, outs_length, failed_outs}
use Rattle.ls_desk.proofs.Events.{cancelled, uncancelled}
use Rattle.ls_desk.proofs.desk.Desk.cancel.Goals as goal
use Rattle.ls_desk.proofs.desk.Desk.cancel.Goals.{After-enter, After-enter-in-None}

pub invariant_of-self : goal.invariant_of-self
invariant_of-self c =
    let e = c.room_for_replies.ensures in
    kept_room _ _ _ _ _ _ _ _ _ _ _ _ c.self.invariant refl refl refl refl e.outbox e.journal e.more

pub invariant_of-self-in_err-room_for_event-in-None : goal.invariant_of-self-in_err-room_for_event-in-None
invariant_of-self-in_err-room_for_event-in-None c =
    let e = c.room_for_event.ensures in
    kept_room _ _ _ _ _ _ _ _ _ _ _ _ c.self.invariant refl refl refl refl refl e.journal e.more

-- ---- a request waits

held : (c : After-enter) → Holds (state_of c.args.self.now) c.self.inside.present c.self.inside.outbox.items
held c = stands c.self.inside.history _ _ _ _ _ c.self.invariant c.self.view_is

at_now : (c : After-enter) → position (asks_with c.args.id.now) (state_of c.args.self.now).waiting ≡ Some c.in-Some.at
at_now c = rw c.in-Some.is at c.in_ok-at.ensures.at

at_place : (c : After-enter) → position (asks_with c.args.id.now) c.self.inside.present.waiting.items ≡ Some c.in-Some.at
at_place c = ap (λ (ws : List Waiting). position (asks_with c.args.id.now) ws) (held c).waiting_are ∙ at_now c

found : (c : After-enter) → find (asks_with c.args.id.now) (state_of c.args.self.now).waiting ≡ Some c.remove_at-job.result
found c =
    let e = c.remove_at-job.ensures.waiting (asks_with c.args.id.now) (at_place c) in
    ap (λ (ws : List Waiting). find (asks_with c.args.id.now) ws) (sym (held c).waiting_are) ∙ e.0

few : (c : After-enter) → used c.args.self.now + (1 + length (told_if_found request_cancelled (Some c.remove_at-job.result))) ≤ c.args.self.now.max_events
few c =
    let P : Option Waiting → Type 0 = λ w. used c.args.self.now + (1 + length (told_if_found request_cancelled w)) ≤ c.args.self.now.max_events in
    subst P (found c) c.in_ok-at.ensures.room

grown_by : (c : After-enter) → c.put_failure.new.outbox.items ≡ c.self.inside.outbox.items ++ failed request_cancelled c.remove_at-job.result
grown_by c = c.put_failure.ensures ∙ ap (λ (os : List Out). os ++ failed request_cancelled c.remove_at-job.result) c.room_for_replies.ensures.outbox

longer : (c : After-enter) → length c.put_failure.new.outbox.items ≡ length c.self.inside.outbox.items + length (told_if_found request_cancelled (Some c.remove_at-job.result))
longer c =
    let w = c.remove_at-job.result in
    ap length (grown_by c) ∙ (length-append c.self.inside.outbox.items (failed request_cancelled w)
    ∙ ap (λ n. length c.self.inside.outbox.items + n) (outs_length (told_end request_cancelled w) (failed request_cancelled w) (failed_outs w.ticket request_cancelled w.request)))

one_at_most : (ticket : ℕ) (code : ℤ) (r : Option Request) → length (told_to ticket code r) ≤ 1
one_at_most ticket code None = omega arith
one_at_most ticket code (Some r) = omega arith

went : (c : After-enter) → Entered c.args.self.now (Cancelled c.args.id.now true) c.enter.new.self c.remove_at-job.new.self c.put_failure.new.outbox.items c.self.inside.max_journal c.self.inside.max_events
went c =
    let used = few c in
    let room = c.in_ok-room_for_replies-in-Some.ensures.room in
    let one = one_at_most c.remove_at-job.result.ticket request_cancelled c.remove_at-job.result.request in
    let more = longer c in
    entered c.self.inside.history _ _ _ _ _ c.in_ok-state.state (Cancelled c.args.id.now true) _ c.room_for_replies.new.journal _ _ _ c.self.invariant c.self.view_is c.in_ok-state.ensures
    (cancelled _ _ _ c.args.id.now c.remove_at-job.result _ _ (held c) (found c)
    c.remove_at-job.ensures.documents ((c.remove_at-job.ensures.waiting (asks_with c.args.id.now) (at_place c)).1) c.remove_at-job.ensures.version c.remove_at-job.ensures.ticket
    (grown_by c))
    c.room_for_replies.ensures.journal c.room_for_replies.ensures.ended c.enter.ensures
    (λ i. Cancelled (c.in_ok-id.ensures.ok i) true)
    (omega arith) (omega arith)

pub invariant_of-self-in-Some : goal.invariant_of-self-in-Some
invariant_of-self-in-Some c = (went c).kept

pub returns-in_ok-room_for_replies-in-Some-clause-ok : goal.returns-in_ok-room_for_replies-in-Some-clause-ok
returns-in_ok-room_for_replies-in-Some-clause-ok c = record { none = c.in_ok-at.ensures.free; enters = (went c).enters }

-- ---- none waits

none_now : (c : After-enter-in-None) → find (asks_with c.args.id.now) (state_of c.args.self.now).waiting ≡ None
none_now c = rw c.in-None.is at c.in_ok-at.ensures.none

none_few : (c : After-enter-in-None) → used c.args.self.now + 1 ≤ c.args.self.now.max_events
none_few c =
    let P : Option Waiting → Type 0 = λ w. used c.args.self.now + (1 + length (told_if_found request_cancelled w)) ≤ c.args.self.now.max_events in
    subst P (none_now c) c.in_ok-at.ensures.room

none_went : (c : After-enter-in-None) → Entered c.args.self.now (Cancelled c.args.id.now false) c.enter-in-None.new.self c.self.inside.present c.self.inside.outbox.items c.self.inside.max_journal c.self.inside.max_events
none_went c =
    let few = none_few c in
    let room = c.in_ok-room_for_event-in-None.ensures.room in
    entered c.self.inside.history _ _ _ _ _ c.in_ok-state.state (Cancelled c.args.id.now false) _ c.room_for_event.new.journal _ _ _ c.self.invariant c.self.view_is c.in_ok-state.ensures
    (uncancelled _ _ _ c.args.id.now (stands c.self.inside.history _ _ _ _ _ c.self.invariant c.self.view_is) (none_now c))
    c.room_for_event.ensures.journal c.room_for_event.ensures.ended c.enter-in-None.ensures
    (λ i. Cancelled (c.in_ok-id.ensures.ok i) false)
    (omega arith) (omega arith)

pub invariant_of-self-in-None : goal.invariant_of-self-in-None
invariant_of-self-in-None c = (none_went c).kept

pub returns-in_ok-room_for_event-in-None-clause-ok : goal.returns-in_ok-room_for_event-in-None-clause-ok
returns-in_ok-room_for_event-in-None-clause-ok c = record { none = c.in_ok-at.ensures.free; enters = (none_went c).enters }
