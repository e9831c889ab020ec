use Rattle.std.proofs.Common.{◌≡◌, ◌+◌, ◌≤◌, true, List, ℕ, sym, ap, ◌∙◌, refl, arith}
use Rattle.std.specs.Prelude.{Result, Ok, Err, OnErr, Some, None, IfSome, position, find, is_some}
use Rattle.ls_machine.specs.declared.event.Event.TheVariants.{Took}
use Rattle.ls_machine.specs.declared.state.Waiting.{Waiting}
use Rattle.ls_desk.specs.Stands.{state_of, used}
use Rattle.ls_desk.proofs.Grows.{Entered, Holds, entered, kept_room, stands}
use Rattle.ls_machine.specs.Machine.{is_queued}
use Rattle.ls_desk.specs.Faults.{IsJobOf}
use Rattle.ls_desk.proofs.Jobs.{found_job}
use Rattle.ls_machine.proofs.Places.{position_find}
use Rattle.ls_desk.proofs.Events.{taken}
use Rattle.ls_desk.proofs.desk.Desk.take.Goals as goal
use Rattle.ls_desk.proofs.desk.Desk.take.Goals.{After-enter}

pub invariant_of-self : goal.invariant_of-self
invariant_of-self c = kept_room _ _ _ _ _ _ _ _ _ _ _ _ c.self.invariant refl refl refl refl refl c.room_for_event.ensures.journal c.room_for_event.ensures.more

at_now : (c : After-enter) → position is_queued (state_of c.args.self.now).waiting ≡ Some c.in-Some.at
at_now c = rw c.in-Some.is at c.in_ok-at.ensures.at

-- ---- a refusal, where one is queued

on_err : {T E P : Type 0} (r : Result T E) → P → OnErr r P
on_err (Ok x) p = tt
on_err (Err e) p = p

queued_there : (ws : List Waiting) (i : ℕ) → position is_queued ws ≡ Some i → is_some (find is_queued ws) ≡ true
queued_there ws i h = sym (position_find is_queued ws) ∙ ap is_some h

pub returns-in_err-room_for_event-clause-queued : goal.returns-in_err-room_for_event-clause-queued
returns-in_err-room_for_event-clause-queued c =
    on_err c.from_residual-in_err-room_for_event.result (queued_there (state_of c.args.self.now).waiting c.in-Some.at (rw c.in-Some.is at c.in_ok-at.ensures.at))

-- ---- a job is taken

job_now : (c : After-enter) → IfSome (find is_queued (state_of c.args.self.now).waiting) (λ w. IsJobOf w c.in-Some.job)
job_now c = rw c.in-Some.is at c.in_ok-at.ensures.job

job_found : (c : After-enter) → (w : Waiting) × (find is_queued (state_of c.args.self.now).waiting ≡ Some w) × IsJobOf w c.in-Some.job
job_found c = found_job is_queued (state_of c.args.self.now).waiting c.in-Some.at c.in-Some.job (at_now c) (job_now c)

room_now : (c : After-enter) → used c.args.self.now + 1 ≤ c.args.self.now.max_events
room_now c = rw c.in-Some.is at c.in_ok-at.ensures.room

held : (c : After-enter) → Holds (state_of c.args.self.now) c.self.inside.present c.self.inside.outbox.items
held c = stands c.self.inside.history _ _ _ _ _ c.self.invariant c.self.view_is

at_place : (c : After-enter) → position is_queued c.self.inside.present.waiting.items ≡ Some c.in-Some.at
at_place c = ap (λ (ws : List Waiting). position is_queued ws) (held c).waiting_are ∙ at_now c

went : (c : After-enter) → Entered c.args.self.now (Took c.args.worker) c.enter.new.self c.take.new.self c.self.inside.outbox.items c.self.inside.max_journal c.self.inside.max_events
went c =
    let few = room_now c in
    let room = c.in_ok-room_for_event.ensures.room in
    entered c.self.inside.history _ _ _ _ _ None (Took c.args.worker) _ c.room_for_event.new.journal _ _ _ c.self.invariant c.self.view_is refl
    (taken _ _ _ c.args.worker (job_found c).0 _ (held c) (job_found c).1
    c.take.ensures.documents (c.take.ensures.waiting is_queued (at_place c)) c.take.ensures.version c.take.ensures.ticket)
    c.room_for_event.ensures.journal c.room_for_event.ensures.ended c.enter.ensures refl (omega arith) (omega arith)

pub invariant_of-self-2 : goal.invariant_of-self-2
invariant_of-self-2 c = (went c).kept

pub returns-clause-ok : goal.returns-clause-ok
returns-clause-ok c = ((job_found c).0, (job_found c).1, (job_found c).2, record { none = c.in_ok-at.ensures.free; enters = (went c).enters })
