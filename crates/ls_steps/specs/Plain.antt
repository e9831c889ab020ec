-- The plain schedule of a session: a message is heard, then the jobs that wait are run one after the other, and then all that is kept is
-- sent, before the next message is read. It is said in the acts of a run.
use Rattle.std.specs.Prelude.{◌≡◌, ℕ, zero, suc, List, [], ◌∷◌, ◌++◌, find, is_none, ◌||◌, Bool, true, false}
use Rattle.ls_machine.specs.Machine.{first_ticket, is_queued}
use Rattle.ls_steps.specs.Runs.{Act, Going, Runs, Steps, finish_job, hear, is_filled, send, state_at, take_job}

-- Nothing is left to run: no job is queued, or the session is full.
abbrev pub has_run_all : Going → Bool
has_run_all g = is_filled g.status || is_none (find is_queued (state_at g).waiting)

-- Nothing is left to send.
abbrev pub has_sent_all : Going → Bool
has_sent_all g = is_none (first_ticket (state_at g).unsent)

-- these acts again and again, so many times, until it is done and not before
unfoldable pub RunsUntil : Bool → (Going → Bool) → List Act → ℕ → Going → Going → List ℕ → Type 0
RunsUntil may_fail is_done acts zero g h bytes = (is_done g ≡ true) × (h ≡ g) × (bytes ≡ [])
RunsUntil may_fail is_done acts (suc n) g h bytes = (is_done g ≡ false) × ((mid : Going) × (now : List ℕ) × (later : List ℕ)
    × (Runs may_fail g acts mid now × RunsUntil may_fail is_done acts n mid h later × (bytes ≡ now ++ later)))

-- the first queued job is taken, run and handed in
abbrev pub job_acts : List Act
job_acts = take_job ∷ finish_job 0 ∷ []

-- So many jobs are taken and run, until nothing is left to run.
abbrev pub Works : Bool → ℕ → Going → Going → Type 0
Works may_fail jobs g h = RunsUntil may_fail has_run_all job_acts jobs g h []

-- So many replies leave, until none is left to send, and these are their frames.
abbrev pub Replies : Bool → ℕ → Going → Going → List ℕ → Type 0
Replies may_fail replies g h bytes = RunsUntil may_fail has_sent_all (send ∷ []) replies g h bytes

-- Some number of replies is all that is kept: once so many have left, none is left to send.
abbrev pub CanSendAll : Going → Type 0
CanSendAll g = (replies : ℕ) × (left : Going) × (bytes : List ℕ) × Replies true replies g left bytes

-- One message is heard, and the jobs that wait are run.
pub record HearsAndRuns (may_fail : Bool) (g : Going) (body : List ℕ) (h : Going) : Type 0 where
  pub heard : Going
  pub hears : Steps may_fail g (hear body) heard []
  pub jobs : ℕ
  pub works : Works may_fail jobs heard h

-- What one message comes to: it is heard, the jobs that wait are run, and all that is kept is sent.
pub record Serves (may_fail : Bool) (g : Going) (body : List ℕ) (h : Going) (bytes : List ℕ) : Type 0 where
  pub worked : Going
  pub hears : HearsAndRuns may_fail g body worked
  pub replies : ℕ
  pub sends : Replies may_fail replies worked h bytes

-- What is said on messages, one after the other, by the plain schedule. Only where `may_fail` is true may jobs be refused memory.
unfoldable pub Says : Bool → Going → List (List ℕ) → Going → List ℕ → Type 0
Says may_fail g [] h bytes = (h ≡ g) × (bytes ≡ [])
Says may_fail g (body ∷ bodies) h bytes = (mid : Going) × (now : List ℕ) × (later : List ℕ)
    × (Serves may_fail g body mid now × Says may_fail mid bodies h later × (bytes ≡ now ++ later))

-- acts, so many times
abbrev pub many_times : ℕ → List Act → List Act
many_times zero acts = []
many_times (suc n) acts = acts ++ many_times n acts

-- These are the acts of the schedule on these messages: each is heard, so many jobs are taken and run, and so many replies sent.
unfoldable pub AreServing : List (List ℕ) → List Act → Type 0
AreServing [] acts = acts ≡ []
AreServing (body ∷ bodies) acts = (jobs : ℕ) × (replies : ℕ) × (later : List Act)
    × (AreServing bodies later × (acts ≡ hear body ∷ many_times jobs job_acts ++ (many_times replies (send ∷ []) ++ later)))

-- Nothing is left to run or to send, as between two messages.
pub record IsAtRest (g : Going) : Type 0 where
  pub idle : has_run_all g ≡ true
  pub sent : (state_at g).unsent ≡ []
