-- How much is left to do, and that it can be done.
use Rattle.std.specs.Prelude.{◌≡◌, ◌<◌, ◌+◌, ◌⊎◌, ◌++◌, ◌∷◌, [], ℕ, List, length, sum_by, Bool, true, false, if◌then◌else◌}
use Rattle.ls_machine.specs.declared.event.Event.{Event}
use Rattle.ls_machine.specs.declared.event.Event.TheVariants.{Took, Finished, Sent}
use Rattle.ls_machine.specs.declared.state.State.{State}
use Rattle.ls_machine.specs.declared.state.Waiting.{Waiting}
use Rattle.ls_machine.specs.Machine.{IsPossible, step}

-- how many steps a job still needs at most, to be taken, to be finished, and that what it leaves is sent: 3 where it is queued, 2 where it
-- is taken
abbrev pub steps_of : Waiting → ℕ
steps_of w = if w.taken then 2 else 3

-- how many steps are left at most, of all jobs and of what isn't sent yet
abbrev pub left : State → ℕ
left s = sum_by steps_of s.waiting + length s.unsent

-- A worker takes or finishes a job, or an entry is sent. That a worker gives a job back is none of these: it undoes a step, and a worker
-- that runs never does.
abbrev pub is_step : Event → Bool
is_step (Took worker) = true
is_step (Finished ticket failed) = true
is_step (Sent ticket) = true
is_step _ = false

-- One of these steps is possible: a job can be taken, by whichever worker; or one can be finished, whether memory was refused in it or not;
-- or an entry can be sent.
abbrev pub CanGoOn : State → Type 0
CanGoOn s =
    ((worker : ℕ) → IsPossible s (Took worker))
    ⊎ (((ticket : ℕ) × ((failed : Bool) → IsPossible s (Finished ticket failed))) ⊎ ((ticket : ℕ) × IsPossible s (Sent ticket)))

-- So it is in each state where something is left.
abbrev pub WorkGoesOn : Type 0
WorkGoesOn = (s : State) → 0 < left s → CanGoOn s

-- Each job that a worker has can be finished, whatever else waits, and whether memory was refused in it or not.
abbrev pub TakenJobsCanFinish : Type 0
TakenJobsCanFinish =
    (s : State) (before later : List Waiting) (w : Waiting) (failed : Bool) → s.waiting ≡ before ++ w ∷ later → w.taken ≡ true → IsPossible s (Finished w.ticket failed)

-- Where nothing is left no job waits, and nothing is unsent.
abbrev pub NothingIsLeft : Type 0
NothingIsLeft = (s : State) → left s ≡ 0 → (s.waiting ≡ []) × (s.unsent ≡ [])

-- After each step fewer are left.
abbrev pub StepsAreFew : Type 0
StepsAreFew = (s : State) (e : Event) → is_step e ≡ true → IsPossible s e → left (step s e) < left s
