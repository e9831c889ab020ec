use Rattle.std.proofs.Common.{◌≡◌, ◌+◌, ◌++◌, Bool, true, List, length, sym, ap, ◌∙◌, subst, refl, arith, length-append}
use Rattle.std.specs.Prelude.{Some, None, position, find, is_none, Option, ◌≤◌}
use Rattle.ls_machine.specs.declared.event.Event.TheVariants.{Finished}
use Rattle.ls_machine.specs.declared.event.Out.{Out}
use Rattle.ls_machine.specs.declared.state.Waiting.{Waiting}
use Rattle.ls_machine.specs.Machine.{is_held, left_at}
use Rattle.ls_desk.specs.Stands.{finished, state_of, used}
use Rattle.ls_machine.specs.Same.{is_for}
use Rattle.ls_desk.specs.Faults.{kept_at, kept_for}
use Rattle.ls_desk.proofs.Grows.{Entered, Holds, entered, kept_room, stands}
use Rattle.ls_desk.proofs.Events.{finish, finished_length_holds}
use Rattle.ls_desk.proofs.desk.Desk.finish.Goals as goal
use Rattle.ls_desk.proofs.desk.Desk.finish.Goals.{After-enter}

pub invariant_of-self : goal.invariant_of-self
invariant_of-self c =
    let e = c.room_for_replies.ensures in
    kept_room _ _ _ _ _ _ _ _ _ _ _ _ c.self.invariant refl refl refl refl e.outbox e.journal e.more

-- the job stands there
held : (c : After-enter) → Holds (state_of c.args.self.now) c.self.inside.present c.self.inside.outbox.items
held c = stands c.self.inside.history _ _ _ _ _ c.self.invariant c.self.view_is

at_place : (c : After-enter) → position (is_held c.args.done.ticket) c.self.inside.present.waiting.items ≡ Some c.in-Ok.found.0
at_place c = ap (λ (ws : List Waiting). position (is_held c.args.done.ticket) ws) (held c).waiting_are ∙ c.in-Ok.ensures.at

found : (c : After-enter) → find (is_held c.args.done.ticket) (state_of c.args.self.now).waiting ≡ Some c.remove_at-job.result
found c =
    let e = c.remove_at-job.ensures.waiting (is_held c.args.done.ticket) (at_place c) in
    ap (λ (ws : List Waiting). find (is_held c.args.done.ticket) ws) (sym (held c).waiting_are) ∙ e.0

for_it : (c : After-enter) → is_for (Some c.remove_at-job.result) c.args.done ≡ true
for_it c = let P : Option Waiting → Type 0 = λ w. is_for w c.args.done ≡ true in subst P (found c) c.in-Ok.ensures.job

-- as many replies as there is room for
replies_are : (c : After-enter) → c.in-Ok.found.1 ≡ length (left_at (is_none c.args.done.answer) (Some c.remove_at-job.result))
replies_are c = c.in-Ok.ensures.replies ∙ ap (λ (w : Option Waiting). length (left_at (is_none c.args.done.answer) w)) (found c)

few : (c : After-enter) → used c.args.self.now + (1 + length (left_at (is_none c.args.done.answer) (Some c.remove_at-job.result))) ≤ c.args.self.now.max_events
few c =
    let P : Option Waiting → Type 0 = λ w. used c.args.self.now + (1 + length (left_at (is_none c.args.done.answer) w)) ≤ c.args.self.now.max_events in
    subst P (found c) c.in-Ok.ensures.room

grown_by : (c : After-enter) → c.put_finished.new.outbox.items ≡ c.self.inside.outbox.items ++ finished c.remove_at-job.result c.args.done
grown_by c = c.put_finished.ensures ∙ ap (λ (os : List Out). os ++ finished c.remove_at-job.result c.args.done) c.room_for_replies.ensures.outbox

longer : (c : After-enter) → length c.put_finished.new.outbox.items ≡ length c.self.inside.outbox.items + length (left_at (is_none c.args.done.answer) (Some c.remove_at-job.result))
longer c =
    ap length (grown_by c) ∙ (length-append c.self.inside.outbox.items (finished c.remove_at-job.result c.args.done)
    ∙ ap (λ n. length c.self.inside.outbox.items + n) (finished_length_holds c.remove_at-job.result c.args.done))

went : (c : After-enter) → Entered c.args.self.now (Finished c.args.done.ticket (is_none c.args.done.answer)) c.enter.new.self c.remove_at-job.new.self c.put_finished.new.outbox.items c.self.inside.max_journal c.self.inside.max_events
went c =
    let used = few c in
    let room = c.in-Ok-room_for_replies.ensures.room in
    let some = replies_are c in
    let more = longer c in
    entered c.self.inside.history _ _ _ _ _ None (Finished c.args.done.ticket (is_none c.args.done.answer)) _ c.room_for_replies.new.journal _ _ _ c.self.invariant c.self.view_is refl
    (finish _ _ _ c.args.done c.remove_at-job.result _ _ (held c) (found c) (for_it c)
    c.has_failed-failed.ensures.right
    c.remove_at-job.ensures.documents ((c.remove_at-job.ensures.waiting (is_held c.args.done.ticket) (at_place c)).1) c.remove_at-job.ensures.version c.remove_at-job.ensures.ticket
    (grown_by c))
    c.room_for_replies.ensures.journal c.room_for_replies.ensures.ended c.enter.ensures
    (λ i. Finished (c.ticket-ticket.ensures i) (c.has_failed-failed.ensures.value i))
    (omega arith) (omega arith)

pub invariant_of-self-2 : goal.invariant_of-self-2
invariant_of-self-2 c = (went c).kept

pub returns-clause-ok : goal.returns-clause-ok
returns-clause-ok c = (
  record { none = c.in-Ok.ensures.none; enters = (went c).enters },
  c.kept_for-kept.ensures ∙ (ap (λ (b : Bool). kept_for b c.remove_at-job.result.request) c.has_failed-failed.ensures.value ∙ sym (ap (kept_at (is_none c.args.done.answer)) (found c))),
)

pub put_finished-requires-clause-room : goal.put_finished-requires-clause-room
put_finished-requires-clause-room c =
    let held = stands c.self.inside.history _ _ _ _ _ c.self.invariant c.self.view_is in
    let place = ap (λ (ws : List Waiting). position (is_held c.args.done.ticket) ws) held.waiting_are ∙ c.in-Ok.ensures.at in
    let e = c.remove_at-job.ensures.waiting (is_held c.args.done.ticket) place in
    let there = ap (λ (ws : List Waiting). find (is_held c.args.done.ticket) ws) (sym held.waiting_are) ∙ e.0 in
    let n : c.in-Ok.found.1 ≡ length (left_at (is_none c.args.done.answer) (Some c.remove_at-job.result))
    = c.in-Ok.ensures.replies ∙ ap (λ (w : Option Waiting). length (left_at (is_none c.args.done.answer) w)) there in
    let l = finished_length_holds c.remove_at-job.result c.args.done in
    let r = c.in-Ok-room_for_replies.ensures.places in
    omega arith
