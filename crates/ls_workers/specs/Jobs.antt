-- What a call about a job has done by the history that its seat has seen, and the limits of a desk. Old and new are what the seat has seen
-- of the history before the call and behind it.
use Rattle.std.specs.Prelude.{◌≡◌, ◌⊎◌, ◌++◌, ◌∷◌, [], ℕ, List, Option, Some, None, find, is_none}
use mathlib.Core.List.{IsPrefix}
use Rattle.ls_answers.specs.Told.{Told}
use Rattle.ls_answers.specs.declared.job.Job.{Job}
use Rattle.ls_machine.specs.Machine.{is_held, is_queued}
use Rattle.ls_machine.specs.declared.event.DeskFault.{DeskFault}
use Rattle.ls_machine.specs.declared.event.Event.TheVariants.{Finished, Returned, Took}
use Rattle.ls_machine.specs.declared.event.Kept.{Kept}
use Rattle.ls_machine.specs.declared.state.Waiting.{Waiting}
use Rattle.ls_desk.specs.Faults.{IsFirstCause, IsJobOf, finish_fault, give_back_fault, kept_of}
use Rattle.ls_desk.specs.Stands.{Seen}
use Rattle.ls_history.specs.declared.history_entry.HistoryEntry.{HistoryEntry}
use Rattle.ls_history.specs.declared.history_entry.HistoryEntry.TheVariants.{Worked}
use Rattle.ls_history.specs.declared.history_entry.Stop.{Stop}
use Rattle.ls_history.specs.declared.history_entry.Stop.TheVariants.{Drain, Now}
use Rattle.ls_history.specs.Ends.{stop_of}
use Rattle.ls_history.specs.History.{replay_entries}
use Rattle.ls_history.specs.Places.{Place, beginning, desk_at}

-- where a history has led, from the beginning on
abbrev pub led_by : List HistoryEntry → Place
led_by log = replay_entries beginning log

-- The history had come on from what a seat had seen of it when this entry was added, and this held of where it had led by then. The seat
-- has seen the entry too, and nothing behind it.
pub record HasEntered (entry : HistoryEntry) (Holds : Place → Type 0) (old new : List HistoryEntry) : Type 0 where
  pub before : List HistoryEntry
  pub begins : IsPrefix old before
  pub ends : new ≡ before ++ entry ∷ []
  pub holds : Holds (led_by before)

-- The job is that of the first queued entry there, with its ticket, text, encoding and question.
abbrev pub IsFirstJob : Job → Place → Type 0
IsFirstJob job p = (w : Waiting) × (find is_queued p.state.waiting ≡ Some w) × IsJobOf w job

-- The take of this worker was entered, and the job is that of the first queued entry where the history had led by then.
abbrev pub IsTakenAt : ℕ → List HistoryEntry → List HistoryEntry → Job → Type 0
IsTakenAt worker old new job = HasEntered (Worked (Took worker)) (IsFirstJob job) old new

-- The return of the job with this ticket was entered, against which nothing stood. It is queued again.
abbrev pub IsReturnedAt : ℕ → List HistoryEntry → List HistoryEntry → Type 0
IsReturnedAt ticket old new = HasEntered (Worked (Returned ticket)) (λ p. give_back_fault (desk_at p) ticket ≡ None) old new

-- The end of this very run was entered, with whether memory was refused in it, against which nothing stood; and this is what the desk keeps
-- of it.
abbrev pub IsFinishedAt : Told → Kept → List HistoryEntry → List HistoryEntry → Type 0
IsFinishedAt done kept old new =
    HasEntered (Worked (Finished done.ticket (is_none done.answer))) (λ p. (finish_fault (desk_at p) done ≡ None) × (kept ≡ kept_of (desk_at p) done)) old new

-- Where the history has led, the refusal has its cause.
abbrev pub IsRefusedAt : (Seen → Option DeskFault) → DeskFault → List HistoryEntry → Type 0
IsRefusedAt first fault log = IsFirstCause (first (desk_at (led_by log))) fault

-- Where the history has led, no worker holds a job with this ticket.
abbrev pub IsNotHeld : ℕ → List HistoryEntry → Type 0
IsNotHeld ticket log = find (is_held ticket) (led_by log).state.waiting ≡ None

-- The board has ended by then: at once, or by `Drain`, where this is so.
abbrev pub HasEnded : Option Stop → Type 0 → Type 0
HasEnded stop IsDrained = (stop ≡ Some Now) ⊎ ((stop ≡ Some Drain) × IsDrained)

-- A worker has nothing more to do: the board has ended, and by `Drain` no job is queued.
abbrev pub HasNoJob : List HistoryEntry → Type 0
HasNoJob log = HasEnded (stop_of log) (find is_queued (led_by log).state.waiting ≡ None)

-- The writer has nothing more to do: the board has ended, and by `Drain` no reply is unsent, and no job waits.
abbrev pub HasNothingMore : List HistoryEntry → Type 0
HasNothingMore log = HasEnded (stop_of log) (((led_by log).state.unsent ≡ []) × ((led_by log).state.waiting ≡ []))

-- The desk has these limits: of its journal where a client's event comes to it, and of events and unsent replies together.
pub record HasLimits (journal events : ℕ) (desk : Seen) : Type 0 where
  pub journal_is : desk.max_journal ≡ journal
  pub events_is : desk.max_events ≡ events
