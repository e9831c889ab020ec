-- What the loops of the plain schedule keep.
use Rattle.std.proofs.Common.{◌≡◌, ℕ, zero, suc, ◌+◌, ◌-◌, ◌<◌, ◌≤◌, Bool, true, false, not, ◌&&◌, List, [], ◌∷◌, ◌++◌, length, Option, Some, None, refl, sym, ap, subst, ◌∙◌, arith}
use Rattle.std.proofs.lemmas.List.{append-nil}
use Rattle.std.specs.Prelude.{find, is_none, is_some, IfNone, IfSome, slice_get, ◌||◌, Vec, if◌then◌else◌}
use Rattle.std.specs.declared.alloc.Global.{Global}
use Rattle.ls_answers.specs.Told.{Told}
use Rattle.ls_answers.specs.declared.answer.Answer.{Answer}
use Rattle.ls_machine.specs.declared.event.Event.TheVariants.{Finished, Sent, Took}
use Rattle.ls_machine.specs.declared.event.DeskFault.{DeskFault}
use Rattle.ls_machine.specs.declared.event.DeskFault.TheVariants as fault
use Rattle.ls_machine.specs.declared.state.OutboxEntry.{OutboxEntry}
use Rattle.ls_machine.specs.declared.state.Waiting.{Waiting}
use Rattle.ls_machine.specs.Machine.{step, first_ticket, is_queued, ticket_of, rest}
use Rattle.ls_desk.specs.Faults.{finish_fault, take_fault}
use Rattle.ls_desk.specs.Stands.{Seen, counts_of}
use Rattle.ls_machine.specs.declared.base.Counts.{Counts}
use Rattle.ls_machine.specs.declared.event.Event.{Event}
use Rattle.ls_machine.specs.Counts.{counted_with, total}
use Rattle.ls_machine.proofs.Replays.{counted_push, replay_push, total_one}
use Rattle.ls_steps.specs.Runs.{Going, Held, IsSent, Runs, Steps, bytes_in, counts_at, desk_of, finish_job, finished_by, is_filled, ran, runs, send, state_at, take_job, takes, took, unless_full}
use Rattle.ls_steps.specs.Plain.{CanSendAll, Replies, RunsUntil, Works, has_run_all, has_sent_all, job_acts}
use Rattle.ls_steps.proofs.Talks.{unfinished}

-- ---- a job is taken

abbrev pub IsTaken : Bool → Going → Going → Type 0
IsTaken taken g t = taken ≡ not (has_run_all g) && not (is_filled t.status)

both : (a b : Bool) → true ≡ not a && not b → (a ≡ false) × (b ≡ false)
both true b e = absurd (cc)
both false true e = absurd (cc)
both false false e = (refl, refl)

either : (a b : Bool) → false ≡ not a && not b → a ≡ false → b ≡ true
either true b e f = absurd (cc)
either false true e f = refl
either false false e f = absurd (cc)

pub job_runs : (f : Bool) (g t m : Going) → Steps f g take_job t [] → Steps f t (finish_job 0) m [] → Runs f g job_acts m []
unfolding Runs
job_runs f g t m p q = (t, [], [], (p, (m, [], [], (q, (refl, refl), refl)), refl))

pub works_more : (g t m h : Going) (n : ℕ) → Steps true g take_job t [] → IsTaken true g t → Steps true t (finish_job 0) m [] → Works true n m h → Works true (suc n) g h
unfolding RunsUntil
works_more g t m h n p taken q w = ((both (has_run_all g) (is_filled t.status) taken).0, (m, [], [], (job_runs true g t m p q, w, refl)))

idle_by : (g t : Going) (b : Bool) (o : Option Waiting) → is_filled g.status ≡ b → find is_queued (state_at g).waiting ≡ o → b || is_none o ≡ true → t ≡ unless_full g.status g (takes g o) → t ≡ g
idle_by g t true o f w e p = p ∙ ap (λ b. if b then g else takes g o) f
idle_by g t false None f w e p = p ∙ ap (λ b. if b then g else g) f
idle_by g t false (Some x) f w e p = absurd (cc)

idle_take : (g t : Going) → Steps true g take_job t [] → has_run_all g ≡ true → t ≡ g
unfolding Steps
idle_take g t p e = idle_by g t (is_filled g.status) (find is_queued (state_at g).waiting) refl refl e p.0

works_by : (g t : Going) (b : Bool) → has_run_all g ≡ b → Steps true g take_job t [] → IsTaken false g t → (n : ℕ) × Works true n g t
unfolding RunsUntil
works_by g t true e p taken = (0, (e, idle_take g t p e, refl))
works_by g t false e p taken =
    let full = either (has_run_all g) (is_filled t.status) taken e in
    (1, (e, (t, [], [], (job_runs true g t t p (unfinished t 0 full), (ap (λ b. b || is_none (find is_queued (state_at t).waiting)) full, refl, refl), refl))))

-- none was taken, so nothing is left to run
pub works_end : (g t : Going) → Steps true g take_job t [] → IsTaken false g t → (n : ℕ) × Works true n g t
works_end g t p taken = works_by g t (has_run_all g) refl p taken

-- ---- events come

one_counted : (c : Counts) (es : List Event) (e : Event) → total (counted_with c (es ++ e ∷ [])) ≡ total (counted_with c es) + 1
one_counted c es e = ap total (counted_push c es e) ∙ total_one (counted_with c es) e

pub record Grew (g t : Going) (by : ℕ) : Type 0 where
  pub longer : by + total (counts_at g) ≤ total (counts_at t)
  pub most : t.max_events ≡ g.max_events

took_grew : (g : Going) (w : Waiting) (o : Option DeskFault) → is_filled (took g w o).status ≡ false → Grew g (took g w o) 1
took_grew g w None e = record { longer = omega (arith, one_counted g.base.counts g.journal (Took 0)); most = refl }
took_grew g w (Some f) e = absurd (cc)

take_grew_by : (g t : Going) (b : Bool) (o : Option Waiting) → is_filled g.status ≡ b → b || is_none o ≡ false → is_filled t.status ≡ false → t ≡ unless_full g.status g (takes g o) → Grew g t 1
take_grew_by g t true o f e s p = absurd (cc)
take_grew_by g t false None f e s p = absurd (cc)
take_grew_by g t false (Some w) f e s p =
    let same : t ≡ took g w (take_fault (desk_of g)) = p ∙ ap (λ b. if b then g else takes g (Some w)) f in
    subst (λ (x : Going). Grew g x 1) (sym same) (took_grew g w (take_fault (desk_of g)) (subst (λ (x : Going). is_filled x.status ≡ false) same s))

take_grew : (g t : Going) → Steps true g take_job t [] → IsTaken true g t → Grew g t 1
unfolding Steps
take_grew g t p taken =
    let parts = both (has_run_all g) (is_filled t.status) taken in
    take_grew_by g t (is_filled g.status) (find is_queued (state_at g).waiting) refl parts.0 parts.1 p.0

finished_grew : (d : Seen) (done : Told) (o : Option DeskFault) → total (counts_of d) ≤ total (counted_with (finished_by d done o).base.counts (finished_by d done o).journal)
finished_grew d done None = omega (arith, one_counted d.base.counts d.journal (Finished done.ticket (is_none done.answer)))
finished_grew d done (Some fault.SessionFull) = omega arith
finished_grew d done (Some fault.NotOpen) = omega arith
finished_grew d done (Some fault.AlreadyOpen) = omega arith
finished_grew d done (Some fault.TooManyDocuments) = omega arith
finished_grew d done (Some fault.TooManyWaiting) = omega arith
finished_grew d done (Some fault.IdInUse) = omega arith
finished_grew d done (Some fault.TooLarge) = omega arith
finished_grew d done (Some fault.UnknownTicket) = omega arith
finished_grew d done (Some fault.OtherText) = omega arith
finished_grew d done (Some fault.Memory) = omega arith

runs_grew : (t : Going) (answer : Option Answer) (o : Option Held) → Grew t (runs t 0 answer o) 0
runs_grew t answer None = record { longer = omega arith; most = refl }
runs_grew t answer (Some job) =
    record { longer = omega (arith, finished_grew (desk_of t) (ran job answer) (finish_fault (desk_of t) (ran job answer))); most = refl }

unless_grew : (t : Going) (x : Going) (b : Bool) → Grew t x 0 → Grew t (if b then t else x) 0
unless_grew t x true g = record { longer = omega arith; most = refl }
unless_grew t x false g = g

finish_grew : (t m : Going) → Steps true t (finish_job 0) m [] → Grew t m 0
unfolding Steps
finish_grew t m p =
    subst (λ (x : Going). Grew t x 0) (sym p.2) (unless_grew t (runs t 0 p.0 (slice_get t.held 0)) (is_filled t.status) (runs_grew t p.0 (slice_get t.held 0)))

-- what is left of the session's room
pub room_shrinks : (g t m : Going) → Steps true g take_job t [] → IsTaken true g t → total (counts_at t) ≤ t.max_events → Steps true t (finish_job 0) m []
    → m.max_events - total (counts_at m) < g.max_events - total (counts_at g)
room_shrinks g t m p taken fits q =
    let first = take_grew g t p taken in
    let then_ = finish_grew t m q in
    omega (arith, first.longer, first.most, then_.longer, then_.most, fits)

-- ---- what leaves

pub left_is : (g m : Going) (e : OutboxEntry) (es : List OutboxEntry) → (state_at g).unsent ≡ e ∷ es → m ≡ record g { journal = g.journal ++ Sent (ticket_of e) ∷ [] } → (state_at m).unsent ≡ es
unfolding step
left_is g m e es u s =
    ap (λ (x : Going). (state_at x).unsent) s ∙ (ap (λ x. x.unsent) (replay_push g.base.state g.journal (Sent (ticket_of e))) ∙ ap rest u)

pub send_runs : (f : Bool) (g m : Going) (frame : List ℕ) → Steps f g send m frame → Runs f g (send ∷ []) m frame
unfolding Runs
send_runs f g m frame s = (m, frame, [], (s, (refl, refl), sym (append-nil frame)))

not_none : (o : Option ℕ) → is_some o ≡ true → is_none o ≡ false
not_none None e = absurd (cc)
not_none (Some x) e = refl

-- a reply leaves
pub record OneSent (g m : Going) (frame : List ℕ) : Type 0 where
  pub sends : Steps true g send m frame
  pub more : has_sent_all g ≡ false
  pub fewer : length (state_at m).unsent < length (state_at g).unsent

fewer_by : (g m : Going) (es : List OutboxEntry) (frame : List ℕ) → (state_at g).unsent ≡ es → is_some (first_ticket es) ≡ true → IsSent g es m frame → length (state_at m).unsent < length (state_at g).unsent
fewer_by g m [] frame u some s = absurd (cc)
fewer_by g m (e ∷ es) frame u some s = omega (arith, ap length (left_is g m e es u s.0), ap length u)

one_sent : (g m : Going) (frame : List ℕ) → Steps true g send m frame → is_some (first_ticket (state_at g).unsent) ≡ true → OneSent g m frame
unfolding Steps
one_sent g m frame s some =
    record { sends = s; more = not_none (first_ticket (state_at g).unsent) some; fewer = fewer_by g m (state_at g).unsent frame refl some s }

pub frame_sent : (g m : Going) (o : Option (Vec ℕ Global)) (frame : Vec ℕ Global) → o ≡ Some frame → Steps true g send m (bytes_in o) → IfSome o (λ _. is_some (first_ticket (state_at g).unsent) ≡ true) → OneSent g m frame.items
frame_sent g m None frame e s some = absurd (cc)
frame_sent g m (Some x) frame e s some =
    let same : x ≡ frame = cc in
    subst (λ (v : Vec ℕ Global). OneSent g m v.items) same (one_sent g m x.items s some)

pub replies_more : (g m h : Going) (n : ℕ) (frame later : List ℕ) → OneSent g m frame → Replies true n m h later → Replies true (suc n) g h (frame ++ later)
unfolding RunsUntil
replies_more g m h n frame later one w = (one.more, (m, frame, later, (send_runs true g m frame one.sends, w, refl)))

none_sent : (g m : Going) → Steps true g send m [] → (state_at g).unsent ≡ [] → Replies true 0 g m []
unfolding Steps RunsUntil
none_sent g m s u = (ap (λ es. is_none (first_ticket es)) u, (subst (λ es. IsSent g es m []) u s).0, refl)

-- nothing is left to send
pub replies_end : (g m : Going) (o : Option (Vec ℕ Global)) → ((frame : Vec ℕ Global) → o ≡ Some frame → ⊥) → Steps true g send m (bytes_in o) → IfNone o ((state_at g).unsent ≡ []) → Replies true 0 g m []
replies_end g m None n s u = none_sent g m s u
replies_end g m (Some frame) n s u = absurd (n frame refl)

-- ---- what is left to send

once_sent : (g h k : Going) (es : List OutboxEntry) (a b : List ℕ) → IsSent g es h a → IsSent g es k b → h ≡ k
once_sent g h k [] a b p q = p.0 ∙ sym q.0
once_sent g h k (e ∷ es) a b p q = p.0 ∙ sym q.0

-- by whatever frame a reply leaves, the session is the same then
step_sent : (g h k : Going) (a b : List ℕ) → Steps true g send h a → Steps true g send k b → h ≡ k
unfolding Steps
step_sent g h k a b p q = once_sent g h k (state_at g).unsent a b p q

run_sent : (g h k : Going) (a b : List ℕ) → Runs true g (send ∷ []) h a → Steps true g send k b → h ≡ k
unfolding Runs
run_sent g h k a b r q = r.3.1.0 ∙ step_sent g r.0 k r.1 b r.3.0 q

goes_on_by : (replies : ℕ) (g m left : Going) (bytes frame : List ℕ) → Replies true replies g left bytes → OneSent g m frame → CanSendAll m
unfolding RunsUntil
goes_on_by zero g m left bytes frame w one = let done = w.0 in let more = one.more in absurd (cc)
goes_on_by (suc n) g m left bytes frame w one =
    let x = w.1 in (n, left, x.2, subst (λ t. Replies true n t left x.2) (run_sent g x.0 m x.1 frame x.3.0 one.sends) x.3.1)

-- once a reply has left, all others can
pub can_go_on : (g m : Going) (frame : List ℕ) → CanSendAll g → OneSent g m frame → CanSendAll m
can_go_on g m frame can one = goes_on_by can.0 g m can.1 can.2 frame can.3 one
