-- On each list of messages something is said, and each list of acts is a run, where no memory is refused in a job.
use Rattle.std.proofs.Common.{◌≡◌, ◌⊎◌, inl, inr, ℕ, zero, suc, ◌≤◌, Bool, true, false, List, [], ◌∷◌, ◌++◌, Option, Some, None, refl, sym, ap, subst, ◌∙◌, arith}
use Rattle.std.specs.Prelude.{find, is_none, remove, slice_get, ◌||◌, if◌then◌else◌}
use Rattle.std.proofs.lemmas.Bool.{or_parts}
use Rattle.ls_answers.specs.Told.{Told}
use Rattle.ls_answers.specs.declared.answer.Answer.{Answer}
use Rattle.ls_answers.specs.declared.answer.Answer.TheVariants.{Hover}
use Rattle.ls_answers.proofs.Documents.{some_document_answer}
use Rattle.ls_machine.specs.declared.event.Event.{Event}
use Rattle.ls_machine.specs.declared.event.Event.TheVariants.{Finished, Sent, Took}
use Rattle.ls_machine.specs.declared.event.Out.{Out}
use Rattle.ls_machine.specs.declared.event.Out.TheVariants as out
use Rattle.ls_machine.specs.declared.event.DeskFault.{DeskFault}
use Rattle.ls_machine.specs.declared.event.DeskFault.TheVariants as fault
use Rattle.ls_machine.specs.declared.state.OutboxEntry.{OutboxEntry}
use Rattle.ls_machine.specs.declared.state.OutboxEntry.TheVariants.{Body, Failure, Outcome}
use Rattle.ls_machine.specs.declared.state.Waiting.{Waiting}
use Rattle.ls_machine.specs.Machine.{first_ticket, step, is_held, is_queued, on_first, ticket_of, with_taken, without_first_job}
use Rattle.ls_machine.specs.declared.state.State.{State}
use Rattle.ls_machine.specs.Journal.{replay_from}
use Rattle.ls_desk.specs.Faults.{finish_fault, take_fault}
use Rattle.ls_desk.specs.Stands.{IsOutFor, Seen, out_of, state_of}
use Rattle.ls_machine.proofs.Replays.{replay_push}
use Rattle.ls_frame.specs.Frames.{frame_of}
use Rattle.ls_bodies.specs.Bodies.{failure_body}
use Rattle.ls_session.specs.Bodies.{body_of}
use Rattle.ls_session.specs.declared.turn.Status.TheVariants.{BadFrame}
use Rattle.ls_steps.specs.Runs.{Act, Going, Held, IsSent, Left, Runs, Steps, begun, break_off, desk_of, finish_job, finished_by, finishes, hear, heard, is_filled, leaving, ran, runs, send, state_at, status_by, take_job, takes, took, unless_full, while_open}
use Rattle.ls_steps.specs.Plain.{Replies, RunsUntil, Says, Serves, Works, has_run_all, job_acts}
use Rattle.ls_steps.proofs.OneSession.{body_for, body_told}
use Rattle.ls_machine.proofs.ShortTexts.{Each, IsShortEntry}
use Rattle.ls_steps.proofs.Lawful.{Good, first_current, good_begun, good_run, good_step}
use Rattle.ls_steps.proofs.Serving.{job_runs, left_is, send_runs}

-- ---- how many jobs are queued

abbrev queued : List Waiting → ℕ
queued [] = 0
queued (w ∷ ws) = if is_queued w then suc (queued ws) else queued ws

abbrev queued_at : Going → ℕ
queued_at g = queued (state_at g).waiting

-- the first queued job is taken
one_fewer : (ws : List Waiting) (w : Waiting) → find is_queued ws ≡ Some w → suc (queued (on_first is_queued (with_taken true) ws)) ≡ queued ws
one_fewer [] w e = absurd (cc)
one_fewer (x ∷ ws) w e = by (is_queued x) refl e (one_fewer ws w)
  where
    by : (b : Bool) → is_queued x ≡ b → (if b then Some x else find is_queued ws) ≡ Some w → (find is_queued ws ≡ Some w → suc (queued (on_first is_queued (with_taken true) ws)) ≡ queued ws)
        → suc (queued (on_first is_queued (with_taken true) (x ∷ ws))) ≡ queued (x ∷ ws)
    by true q e later = rw q refl
    by false q e later = rw (q, q) (later e)

no_more : (test : Waiting → Bool) (ws : List Waiting) → queued (without_first_job test ws) ≤ queued ws
no_more test [] = omega arith
no_more test (w ∷ ws) = by (test w) (is_queued w) refl refl (no_more test ws)
  where
    by : (b q : Bool) → test w ≡ b → is_queued w ≡ q → queued (without_first_job test ws) ≤ queued ws → queued (without_first_job test (w ∷ ws)) ≤ queued (w ∷ ws)
    by true true e f le = rw (e, f) (omega arith)
    by true false e f le = rw (e, f) (omega arith)
    by false true e f le = rw (e, f) (omega (arith, le))
    by false false e f le = rw (e, f) le

queued_took : (s : State) (journal : List Event) (w : Waiting) → find is_queued (replay_from s journal).waiting ≡ Some w
    → suc (queued (replay_from s (journal ++ Took 0 ∷ [])).waiting) ≡ queued (replay_from s journal).waiting
unfolding step
queued_took s journal w e = ap (λ z. suc (queued z.waiting)) (replay_push s journal (Took 0)) ∙ one_fewer (replay_from s journal).waiting w e

queued_finished : (s : State) (journal : List Event) (ticket : ℕ) (failed : Bool) → queued (replay_from s (journal ++ Finished ticket failed ∷ [])).waiting ≤ queued (replay_from s journal).waiting
unfolding step
queued_finished s journal ticket failed =
    subst (λ z. queued z.waiting ≤ queued (replay_from s journal).waiting) (sym (replay_push s journal (Finished ticket failed))) (no_more (is_held ticket) (replay_from s journal).waiting)

-- ---- a job is taken and run

abbrev IsLess : Seen → Left → Type 0
IsLess d left = (left.full ≡ true) ⊎ (queued (replay_from left.base.state left.journal).waiting ≤ queued (state_of d).waiting)

less_finished : (d : Seen) (done : Told) (o : Option DeskFault) → IsLess d (finished_by d done o)
less_finished d done None = inr (queued_finished d.base.state d.journal done.ticket (is_none done.answer))
less_finished d done (Some fault.SessionFull) = inl refl
less_finished d done (Some fault.NotOpen) = inr (omega arith)
less_finished d done (Some fault.AlreadyOpen) = inr (omega arith)
less_finished d done (Some fault.TooManyDocuments) = inr (omega arith)
less_finished d done (Some fault.TooManyWaiting) = inr (omega arith)
less_finished d done (Some fault.IdInUse) = inr (omega arith)
less_finished d done (Some fault.TooLarge) = inr (omega arith)
less_finished d done (Some fault.UnknownTicket) = inr (omega arith)
less_finished d done (Some fault.OtherText) = inr (omega arith)
less_finished d done (Some fault.Memory) = inr (omega arith)

abbrev Progress : Going → Going → Type 0
Progress g h = (is_filled h.status ≡ true) ⊎ (suc (queued_at h) ≤ queued_at g)

handed_in : (g t : Going) (left : Left) → suc (queued_at t) ≡ queued_at g → IsLess (desk_of t) left → Progress g (leaving t left)
handed_in g t left e (inl full) = inl (ap (λ f. is_filled (status_by t.status f)) full)
handed_in g t left e (inr less) = inr (omega (arith, e, less))

run_on : (g t : Going) (answer : Option Answer) (o : Option Held) → suc (queued_at t) ≡ queued_at g → Progress g (runs t 0 answer o)
run_on g t answer None e = inr (omega (arith, e))
run_on g t answer (Some job) e =
    handed_in g (record t { held = remove t.held 0 }) (finishes (desk_of t) (ran job answer)) e (less_finished (desk_of t) (ran job answer) (finish_fault (desk_of t) (ran job answer)))

abbrev ended : Option Answer → Going → Going
ended answer t = unless_full t.status t (runs t 0 answer (slice_get t.held 0))

progress : (g : Going) (w : Waiting) (answer : Option Answer) (o : Option DeskFault) → is_filled g.status ≡ false → find is_queued (state_at g).waiting ≡ Some w → Progress g (ended answer (took g w o))
progress g w answer (Some f) free found = inl refl
progress g w answer None free found =
    let t = took g w None in
    subst (λ b. Progress g (if b then t else runs t 0 answer (slice_get t.held 0))) (sym free) (run_on g t answer (slice_get t.held 0) (queued_took g.base.state g.journal w found))

-- ---- what leaves

record Leaving (e : OutboxEntry) : Type 0 where
  leaves : Out
  body : List ℕ
  is_for : IsOutFor e leaves
  body_is : body_of leaves ≡ Some body

some_out : (e : OutboxEntry) → IsShortEntry e → Leaving e
unfolding IsOutFor body_of
some_out (Body body) h = record { leaves = out.Said body; body = body; is_for = refl; body_is = refl }
some_out (Failure ticket id code) h = record { leaves = out.Failed ticket id code; body = failure_body id code; is_for = refl; body_is = refl }
some_out (Outcome w) h =
    let a = some_document_answer w.encoding w.text w.ask h in
    let done : Told = record { ticket = w.ticket; text = w.text; encoding = w.encoding; ask = w.ask; answer = Some a.0 } in
    record {
      leaves = out_of w w.request done;
      body = body_for w w.request a.0;
      is_for = (done, refl, record { ticket = refl; text = refl; encoding = refl; ask = refl; right = (a.0, refl, a.1) });
      body_is = body_told w (out_of w w.request done) done a.0 refl refl;
    }

-- ---- acts

-- what an act leaves
record Next (g : Going) (act : Act) : Type 0 where
  left : Going
  bytes : List ℕ
  steps : Steps false g act left bytes

some_sent : (g : Going) (es : List OutboxEntry) → (state_at g).unsent ≡ es → Good g → (h : Going) × (bytes : List ℕ) × IsSent g es h bytes
some_sent g [] u good = (g, [], (refl, refl))
some_sent g (e ∷ es) u good =
    let o = some_out e (subst (Each IsShortEntry) u good.short.unsent).0 in
    (record g { journal = g.journal ++ Sent (ticket_of e) ∷ [] }, frame_of o.body, (refl, first_current (desk_of g) e es good.lawful u, (o.leaves, o.body, o.is_for, o.body_is, refl)))

some_step : (g : Going) (act : Act) → Good g → Next g act
unfolding Steps
some_step g (hear body) good = record { left = while_open g.status g (heard g body); bytes = []; steps = (refl, refl) }
some_step g (break_off x) good = record { left = while_open g.status g (record g { status = Some (BadFrame x) }); bytes = []; steps = (refl, refl) }
some_step g take_job good = record { left = unless_full g.status g (takes g (find is_queued (state_at g).waiting)); bytes = []; steps = (refl, refl) }
some_step g (finish_job k) good =
    record { left = unless_full g.status g (runs g k (Some (Hover None)) (slice_get g.held k)); bytes = []; steps = (Some (Hover None), (λ f. refl), refl, refl) }
some_step g send good =
    let s = some_sent g (state_at g).unsent refl good in record { left = s.0; bytes = s.1; steps = s.2 }

run_from : (g : Going) (acts : List Act) → Good g → (h : Going) × (bytes : List ℕ) × Runs false g acts h bytes
unfolding Runs
run_from g [] good = (g, [], (refl, refl))
run_from g (act ∷ acts) good =
    let first = some_step g act good in
    let rest = run_from first.left acts (good_step false g first.left act first.bytes first.steps good) in
    (rest.0, first.bytes ++ rest.1, (first.left, first.bytes, rest.1, (first.steps, rest.2, refl)))

pub some_run : (acts : List Act) → (h : Going) × (bytes : List ℕ) × Runs false begun acts h bytes
some_run acts = run_from begun acts good_begun

-- ---- all jobs

record Job (g : Going) : Type 0 where
  left : Going
  runs_it : Runs false g job_acts left []
  further : Progress g left

finish_of : (t : Going) (answer : Answer) → Steps false t (finish_job 0) (ended (Some answer) t) []
unfolding Steps
finish_of t answer = (Some answer, (λ f. refl), refl, refl)

take_of : (g : Going) (w : Waiting) → is_filled g.status ≡ false → find is_queued (state_at g).waiting ≡ Some w → Steps false g take_job (took g w (take_fault (desk_of g))) []
unfolding Steps
take_of g w free found = (sym (ap (λ b. if b then g else takes g (find is_queued (state_at g).waiting)) free ∙ ap (takes g) found), refl)

some_job : (g : Going) (w : Waiting) → is_filled g.status ≡ false → find is_queued (state_at g).waiting ≡ Some w → Job g
some_job g w free found =
    let t = took g w (take_fault (desk_of g)) in
    record {
      left = ended (Some (Hover None)) t;
      runs_it = job_runs false g t (ended (Some (Hover None)) t) (take_of g w free found) (finish_of t (Hover None));
      further = progress g w (Some (Hover None)) (take_fault (desk_of g)) free found;
    }

record Worked (g : Going) : Type 0 where
  jobs : ℕ
  left : Going
  works : Works false jobs g left
  good : Good left

some_found : (o : Option Waiting) → is_none o ≡ false → (w : Waiting) × (o ≡ Some w)
some_found None e = absurd (cc)
some_found (Some w) e = (w, refl)

idle : (g : Going) → has_run_all g ≡ true → Good g → Worked g
unfolding RunsUntil
idle g e good = record { jobs = 0; left = g; works = (e, refl, refl); good = good }

work_by : (g : Going) (b : Bool) → has_run_all g ≡ b → Good g → ((mid : Going) → Good mid → Progress g mid → Worked mid) → Worked g
unfolding RunsUntil
work_by g true e good more = idle g e good
work_by g false e good more =
    let parts = or_parts (is_filled g.status) (is_none (find is_queued (state_at g).waiting)) e in
    let w = some_found (find is_queued (state_at g).waiting) parts.1 in
    let job = some_job g w.0 parts.0 w.1 in
    let later = more job.left (good_run false g job.left job_acts [] job.runs_it good) job.further in
    record { jobs = suc later.jobs; left = later.left; works = (e, (job.left, [], [], (job.runs_it, later.works, refl))); good = later.good }

onward : (g mid : Going) → Good mid → Progress g mid → (suc (queued_at mid) ≤ queued_at g → Worked mid) → Worked mid
onward g mid good (inl full) more = idle mid (ap (λ b. b || is_none (find is_queued (state_at mid).waiting)) full) good
onward g mid good (inr less) more = more less

some_work : (fuel : ℕ) (g : Going) → Good g → queued_at g ≤ fuel → Worked g
some_work zero g good le = work_by g (has_run_all g) refl good (λ mid f p. onward g mid f p (λ less. absurd (omega (arith, le, less))))
some_work (suc fuel) g good le = work_by g (has_run_all g) refl good (λ mid f p. onward g mid f p (λ less. some_work fuel mid f (omega (arith, le, less))))

-- ---- all that is kept

-- they have left
pub record Replied (g : Going) : Type 0 where
  pub replies : ℕ
  pub left : Going
  pub bytes : List ℕ
  pub sends : Replies false replies g left bytes
  pub good : Good left

unsent_after : (g m : Going) (e : OutboxEntry) (es : List OutboxEntry) (bytes : List ℕ) → (state_at g).unsent ≡ e ∷ es → Steps false g send m bytes → (state_at m).unsent ≡ es
unfolding Steps
unsent_after g m e es bytes u s = left_is g m e es u (subst (λ l. IsSent g l m bytes) u s).0

pub some_replies : (es : List OutboxEntry) (g : Going) → (state_at g).unsent ≡ es → Good g → Replied g
unfolding RunsUntil
some_replies [] g u good = record { replies = 0; left = g; bytes = []; sends = (ap (λ l. is_none (first_ticket l)) u, refl, refl); good = good }
some_replies (e ∷ es) g u good =
    let first = some_step g send good in
    let rest = some_replies es first.left (unsent_after g first.left e es first.bytes u first.steps) (good_step false g first.left send first.bytes first.steps good) in
    record {
      replies = suc rest.replies;
      left = rest.left;
      bytes = first.bytes ++ rest.bytes;
      sends = (ap (λ l. is_none (first_ticket l)) u, (first.left, first.bytes, rest.bytes, (send_runs false g first.left first.bytes first.steps, rest.sends, refl)));
      good = rest.good;
    }

-- ---- messages

record Message (g : Going) (body : List ℕ) : Type 0 where
  left : Going
  bytes : List ℕ
  serves : Serves false g body left bytes
  good : Good left

hear_of : (g : Going) (body : List ℕ) → Steps false g (hear body) (while_open g.status g (heard g body)) []
unfolding Steps
hear_of g body = (refl, refl)

some_message : (g : Going) (body : List ℕ) → Good g → Message g body
some_message g body good =
    let first = while_open g.status g (heard g body) in
    let hears = hear_of g body in
    let work = some_work (queued_at first) first (good_step false g first (hear body) [] hears good) (omega arith) in
    let sent = some_replies (state_at work.left).unsent work.left refl work.good in
    record {
      left = sent.left;
      bytes = sent.bytes;
      serves = record {
        worked = work.left;
        hears = record { heard = first; hears = hears; jobs = work.jobs; works = work.works };
        replies = sent.replies;
        sends = sent.sends;
      };
      good = sent.good;
    }

pub said : (g : Going) (bodies : List (List ℕ)) → Good g → (h : Going) × (bytes : List ℕ) × Says false g bodies h bytes
unfolding Says
said g [] good = (g, [], (refl, refl))
said g (body ∷ bodies) good =
    let first = some_message g body good in
    let rest = said first.left bodies first.good in
    (rest.0, first.bytes ++ rest.1, (first.left, first.bytes, rest.1, (first.serves, rest.2, refl)))

-- nothing is open at the start
pub some_session : (bodies : List (List ℕ)) → (h : Going) × (bytes : List ℕ) × Says false begun bodies h bytes
some_session bodies = said begun bodies good_begun
