-- How a history can go on, by what workers and the writer do.
use Rattle.std.specs.Prelude.{◌≡◌, ◌<◌, ◌≤◌, ◌+◌, ◌⊎◌, ◌++◌, [], ℕ, List, length, Bool, true, false, unwrap_or}
use Rattle.std.specs.List.{AllByRecursion}
use Rattle.ls_machine.specs.Counts.{total}
use Rattle.ls_machine.specs.Progress.{left}
use Rattle.ls_machine.specs.declared.event.Event.TheVariants.{Took, Finished}
use Rattle.ls_machine.specs.declared.event.Out.{Out}
use Rattle.ls_history.specs.declared.history_entry.HistoryEntry.{HistoryEntry}
use Rattle.ls_history.specs.declared.history_entry.HistoryEntry.TheVariants.{Left, Worked}
use Rattle.ls_history.specs.History.{IsLegalHistory, MayHappen, replay_entries}
use Rattle.ls_history.specs.Places.{Place, beginning, happens}

-- The entry is a step: a worker takes or finishes a job, or a reply leaves.
abbrev pub is_board_step : HistoryEntry → Bool
is_board_step (Worked (Took worker)) = true
is_board_step (Worked (Finished ticket failed)) = true
is_board_step (Left out) = true
is_board_step _ = false

-- Each of these entries is a step.
abbrev pub AreSteps : List HistoryEntry → Type 0
AreSteps entries = AllByRecursion (λ h. is_board_step h ≡ true) entries

-- how many steps are left at a place at most
abbrev pub steps_left : Place → ℕ
steps_left p = left p.state

-- The events so far and the steps that are left are within the limit: there is room for an event for each step, so that the session isn't
-- full before they are made.
abbrev pub HasRoomForSteps : Place → Type 0
HasRoomForSteps p = total p.counts + steps_left p ≤ unwrap_or p.limit 0

-- A step may happen there: a job can be taken, by whichever worker; or one can be finished, whether memory was refused in it or not; or a
-- reply can leave, for which there is an answer.
abbrev pub BoardCanGoOn : Place → Type 0
BoardCanGoOn p =
    ((worker : ℕ) → MayHappen p (Worked (Took worker)))
    ⊎ (((ticket : ℕ) × ((failed : Bool) → MayHappen p (Worked (Finished ticket failed)))) ⊎ ((out : Out) × MayHappen p (Left out)))

-- So it is wherever a legal history has led, if something is left there and there is room for it.
abbrev pub BoardWorkGoesOn : Type 0
BoardWorkGoesOn = (log : List HistoryEntry) → IsLegalHistory log → HasRoomForSteps (replay_entries beginning log) → 0 < steps_left (replay_entries beginning log) → BoardCanGoOn (replay_entries beginning log)

-- Each step leaves fewer, and there is room for these.
abbrev pub BoardStepsAreFew : Type 0
BoardStepsAreFew = (p : Place) (h : HistoryEntry) → is_board_step h ≡ true → MayHappen p h → (steps_left (happens p h) < steps_left p) × (HasRoomForSteps p → HasRoomForSteps (happens p h))

-- After a history and the steps that have been made behind it, further steps lead to where no job waits and nothing is unsent. All these
-- steps are no more than were left behind the history.
pub record CanEnd (log made : List HistoryEntry) : Type 0 where
  pub more : List HistoryEntry
  pub steps : AreSteps more
  pub few : length (made ++ more) ≤ steps_left (replay_entries beginning log)
  pub legal : IsLegalHistory (log ++ made ++ more)
  pub none_waits : (replay_entries beginning (log ++ made ++ more)).state.waiting ≡ []
  pub none_unsent : (replay_entries beginning (log ++ made ++ more)).state.unsent ≡ []

-- So it is behind each legal history, if there is room, and whichever steps have been made. So no schedule of workers and writer gets
-- stuck, and none goes on for ever.
abbrev pub SchedulesEnd : Type 0
SchedulesEnd = (log made : List HistoryEntry) → IsLegalHistory (log ++ made) → AreSteps made → HasRoomForSteps (replay_entries beginning log) → CanEnd log made
