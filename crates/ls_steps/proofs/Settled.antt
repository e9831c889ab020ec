-- A session that is served plainly has nothing left to run or to send between its messages.
use Rattle.std.proofs.Common.{◌≡◌, inr, inl, ℕ, zero, suc, Bool, true, false, List, [], ◌∷◌, ◌++◌, Option, refl, sym, ap, subst, ◌∙◌, append_assoc}
use Rattle.std.proofs.lemmas.List.{append-nil}
use Rattle.std.specs.Prelude.{find, is_none, is_some, slice_get, ◌⊎◌, ◌||◌, if◌then◌else◌}
use Rattle.ls_machine.specs.declared.event.Event.{Event}
use Rattle.ls_machine.specs.declared.event.Event.TheVariants.{Sent}
use Rattle.ls_machine.specs.declared.state.OutboxEntry.{OutboxEntry}
use Rattle.ls_machine.specs.declared.state.State.{State}
use Rattle.ls_machine.specs.Machine.{first_ticket, step, is_queued, ticket_of}
use Rattle.ls_machine.specs.Journal.{replay_from}
use Rattle.ls_machine.proofs.Replays.{replay_push}
use Rattle.ls_steps.specs.Runs.{Act, Going, Held, IsSent, NeedsNoMemory, Runs, Steps, begun, break_off, finish_job, hear, heard, is_filled, send, state_at, take_job}
use Rattle.ls_steps.specs.Plain.{CanSendAll, HearsAndRuns, IsAtRest, Replies, RunsUntil, Says, Serves, has_run_all, has_sent_all, job_acts}
use Rattle.ls_steps.proofs.Lawful.{Good, good_begun, good_run, good_step}
use Rattle.ls_steps.proofs.SomeSession.{said, some_replies}

pub settled_begun : IsAtRest begun
unfolding replay_from
settled_begun = record { idle = refl; sent = refl }

-- ---- what is left once all has been sent

none_unsent : (es : List OutboxEntry) → is_none (first_ticket es) ≡ true → es ≡ []
none_unsent [] e = refl
none_unsent (x ∷ es) e = absurd (cc)

until_done : (f : Bool) (is_done : Going → Bool) (acts : List Act) (n : ℕ) (g h : Going) (bytes : List ℕ) → RunsUntil f is_done acts n g h bytes → is_done h ≡ true
unfolding RunsUntil
until_done f is_done acts zero g h bytes w = ap is_done w.1 ∙ w.0
until_done f is_done acts (suc n) g h bytes w = let x = w.1 in until_done f is_done acts n x.0 h x.2 x.3.1

one_waits : (s : State) (journal : List Event) (e : OutboxEntry) → (replay_from s (journal ++ Sent (ticket_of e) ∷ [])).waiting ≡ (replay_from s journal).waiting
unfolding step
one_waits s journal e = ap (λ z. z.waiting) (replay_push s journal (Sent (ticket_of e)))

sent_idle : (g h : Going) (es : List OutboxEntry) (bytes : List ℕ) → IsSent g es h bytes → has_run_all h ≡ has_run_all g
sent_idle g h [] bytes s = ap has_run_all s.0
sent_idle g h (e ∷ es) bytes s = ap has_run_all s.0 ∙ ap (λ ws. is_filled g.status || is_none (find is_queued ws)) (one_waits g.base.state g.journal e)

-- a reply leaves the jobs as they are
send_idle : (f : Bool) (g h : Going) (bytes : List ℕ) → Steps f g send h bytes → has_run_all h ≡ has_run_all g
unfolding Steps
send_idle f g h bytes s = sent_idle g h (state_at g).unsent bytes s

sends_idle : (f : Bool) (g h : Going) (bytes : List ℕ) → Runs f g (send ∷ []) h bytes → has_run_all h ≡ has_run_all g
unfolding Runs
sends_idle f g h bytes r = ap has_run_all r.3.1.0 ∙ send_idle f g r.0 r.1 r.3.0

replies_idle : (f : Bool) (n : ℕ) (g h : Going) (bytes : List ℕ) → Replies f n g h bytes → has_run_all h ≡ has_run_all g
unfolding RunsUntil
replies_idle f zero g h bytes w = ap has_run_all w.1
replies_idle f (suc n) g h bytes w = let x = w.1 in replies_idle f n x.0 h x.2 x.3.1 ∙ sends_idle f g x.0 x.1 x.3.0

settled_served : (f : Bool) (g h : Going) (body bytes : List ℕ) → Serves f g body h bytes → IsAtRest h
settled_served f g h body bytes s = record {
  idle = replies_idle f s.replies s.worked h bytes s.sends ∙ until_done f has_run_all job_acts s.hears.jobs s.hears.heard s.worked [] s.hears.works;
  sent = none_unsent (state_at h).unsent (until_done f has_sent_all (send ∷ []) s.replies s.worked h bytes s.sends);
}

pub settled_said : (f : Bool) (g h : Going) (bodies : List (List ℕ)) (bytes : List ℕ) → IsAtRest g → Says f g bodies h bytes → IsAtRest h
unfolding Says
settled_said f g h [] bytes settled s = subst IsAtRest (sym s.0) settled
settled_said f g h (body ∷ bodies) bytes settled s = settled_said f s.0 h bodies s.2 (settled_served f g s.0 body s.1 s.3.0) s.3.1

-- ---- more messages

pub says_more : (f : Bool) (g m h : Going) (xs ys : List (List ℕ)) (a b : List ℕ) → Says f g xs m a → Says f m ys h b → Says f g (xs ++ ys) h (a ++ b)
unfolding Says
says_more f g m h [] ys a b s t =
    subst (λ l. Says f g ys h (l ++ b)) (sym s.1) (subst (λ x. Says f x ys h b) s.0 t)
says_more f g m h (x ∷ xs) ys a b s t =
    (s.0, s.1, s.2 ++ b, (s.3.0, says_more f s.0 m h xs ys s.2 b s.3.1 t, ap (λ l. l ++ b) s.3.2 ∙ append_assoc s.1 s.2 b))

pub says_one : (f : Bool) (g h : Going) (body bytes : List ℕ) → Serves f g body h bytes → Says f g (body ∷ []) h bytes
unfolding Says
says_one f g h body bytes s = (h, bytes, [], (s, (refl, refl), sym (append-nil bytes)))

-- where the session has ended nothing is said
served_ended : (f : Bool) (g : Going) (body : List ℕ) → IsAtRest g → is_some g.status ≡ true → Serves f g body g []
unfolding Steps RunsUntil
served_ended f g body settled ended = record {
  worked = g;
  hears = record {
    heard = g;
    hears = (sym (ap (λ b. if b then g else heard g body) ended), refl);
    jobs = 0;
    works = (settled.idle, refl, refl);
  };
  replies = 0;
  sends = (ap (λ es. is_none (first_ticket es)) settled.sent, refl, refl);
}

says_nothing : (f : Bool) (g : Going) (bodies : List (List ℕ)) → IsAtRest g → is_some g.status ≡ true → Says f g bodies g []
unfolding Says
says_nothing f g [] settled ended = (refl, refl)
says_nothing f g (body ∷ bodies) settled ended = (g, [], [], (served_ended f g body settled ended, says_nothing f g bodies settled ended, refl))

pub says_stays : (f : Bool) (g h : Going) (xs ys : List (List ℕ)) (a : List ℕ) → IsAtRest g → is_some h.status ≡ true → Says f g xs h a → Says f g (xs ++ ys) h a
says_stays f g h xs ys a settled ended s =
    subst (Says f g (xs ++ ys) h) (append-nil a) (says_more f g h h xs ys a [] s (says_nothing f h ys (settled_said f g h xs a settled s) ended))

-- ---- a session in which no job fails is one in which jobs may fail

needs_none : (job : Option Held) → (true ≡ false) ⊎ NeedsNoMemory job → NeedsNoMemory job
needs_none job (inl e) = absurd (cc)
needs_none job (inr none) = none

weak_step : (g h : Going) (act : Act) (bytes : List ℕ) → Steps false g act h bytes → Steps true g act h bytes
unfolding Steps
weak_step g h (hear body) bytes s = s
weak_step g h (break_off fault) bytes s = s
weak_step g h take_job bytes s = s
weak_step g h (finish_job k) bytes s = (s.0, (λ e. s.1 (inr (needs_none (slice_get g.held k) e))), s.2, s.3)
weak_step g h send bytes s = s

weak_run : (g h : Going) (acts : List Act) (bytes : List ℕ) → Runs false g acts h bytes → Runs true g acts h bytes
unfolding Runs
weak_run g h [] bytes r = r
weak_run g h (act ∷ acts) bytes r = (r.0, r.1, r.2, (weak_step g r.0 act r.1 r.3.0, weak_run r.0 h acts r.2 r.3.1, r.3.2))

weak_until : (is_done : Going → Bool) (acts : List Act) (n : ℕ) (g h : Going) (bytes : List ℕ) → RunsUntil false is_done acts n g h bytes → RunsUntil true is_done acts n g h bytes
unfolding RunsUntil
weak_until is_done acts zero g h bytes w = w
weak_until is_done acts (suc n) g h bytes w =
    let x = w.1 in (w.0, (x.0, x.1, x.2, (weak_run g x.0 acts x.1 x.3.0, weak_until is_done acts n x.0 h x.2 x.3.1, x.3.2)))

weak_served : (g h : Going) (body bytes : List ℕ) → Serves false g body h bytes → Serves true g body h bytes
weak_served g h body bytes s =
    let x = s.hears in
    record {
      worked = s.worked;
      hears = record { heard = x.heard; hears = weak_step g x.heard (hear body) [] x.hears; jobs = x.jobs; works = weak_until has_run_all job_acts x.jobs x.heard s.worked [] x.works };
      replies = s.replies;
      sends = weak_until has_sent_all (send ∷ []) s.replies s.worked h bytes s.sends;
    }

pub weaker : (g h : Going) (bodies : List (List ℕ)) (bytes : List ℕ) → Says false g bodies h bytes → Says true g bodies h bytes
unfolding Says
weaker g h [] bytes s = s
weaker g h (body ∷ bodies) bytes s = (s.0, s.1, s.2, (weak_served g s.0 body s.1 s.3.0, weaker s.0 h bodies s.2 s.3.1, s.3.2))

-- ---- whatever has been said, a session can go on

good_until : (f : Bool) (is_done : Going → Bool) (acts : List Act) (n : ℕ) (g h : Going) (bytes : List ℕ) → RunsUntil f is_done acts n g h bytes → Good g → Good h
unfolding RunsUntil
good_until f is_done acts zero g h bytes w good = subst Good (sym w.1) good
good_until f is_done acts (suc n) g h bytes w good =
    let x = w.1 in good_until f is_done acts n x.0 h x.2 x.3.1 (good_run f g x.0 acts x.1 x.3.0 good)

good_served : (f : Bool) (g h : Going) (body bytes : List ℕ) → Serves f g body h bytes → Good g → Good h
good_served f g h body bytes s good =
    let x = s.hears in
    good_until f has_sent_all (send ∷ []) s.replies s.worked h bytes s.sends
    (good_until f has_run_all job_acts x.jobs x.heard s.worked [] x.works (good_step f g x.heard (hear body) [] x.hears good))

good_said : (f : Bool) (g h : Going) (bodies : List (List ℕ)) (bytes : List ℕ) → Says f g bodies h bytes → Good g → Good h
unfolding Says
good_said f g h [] bytes s good = subst Good (sym s.0) good
good_said f g h (body ∷ bodies) bytes s good = good_said f s.0 h bodies s.2 s.3.1 (good_served f g s.0 body s.1 s.3.0 good)

-- more can be said on more messages
pub goes_on : (f : Bool) (h : Going) (xs ys : List (List ℕ)) (a : List ℕ) → Says f begun xs h a → (k : Going) × (later : List ℕ) × Says false h ys k later
goes_on f h xs ys a s = said h ys (good_said f begun h xs a s good_begun)

-- whatever has been said, all that a message leads to can be sent
pub can_send : (f : Bool) (g worked : Going) (xs : List (List ℕ)) (a body : List ℕ) → Says f begun xs g a → HearsAndRuns f g body worked → CanSendAll worked
can_send f g worked xs a body s x =
    let good = good_until f has_run_all job_acts x.jobs x.heard worked [] x.works (good_step f g x.heard (hear body) [] x.hears (good_said f begun g xs a s good_begun)) in
    let all = some_replies (state_at worked).unsent worked refl good in
    (all.replies, all.left, all.bytes, weak_until has_sent_all (send ∷ []) all.replies worked all.left all.bytes all.sends)
