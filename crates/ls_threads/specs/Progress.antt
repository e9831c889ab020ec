-- No schedule of workers and writer gets stuck, and none goes on for ever.
use Rattle.std.specs.Prelude.{◌++◌, ℕ, List, Option}
use mathlib.Core.List.{IsPrefix}
use Rattle.ls_session.specs.declared.turn.Status.{Status}
use Rattle.ls_history.specs.declared.history_entry.HistoryEntry.{HistoryEntry}
use Rattle.ls_history.specs.History.{IsLegalHistory, replay_entries}
use Rattle.ls_history.specs.Places.{beginning}
use Rattle.ls_history.specs.Progress.{AreSteps, CanEnd, HasRoomForSteps}
use Rattle.ls_history.specs.Told.{heard_of, outs_of}
use Rattle.ls_threads.specs.Served.{IsServed}
use Rattle.ls_threads.specs.Laws.{EachRequest, IsAnsweredOnce}

-- After a history and the steps that have been made behind it, further steps lead to where no job waits and nothing is unsent, and all
-- these are no more than were left behind the history. There each request that the history accepted has been answered once.
pub record CanAnswer (log made : List HistoryEntry) : Type 0 where
  pub end : CanEnd log made
  pub answered : EachRequest (IsAnsweredOnce (outs_of (log ++ made ++ end.more))) (heard_of log)

-- So it is at each place of a run's history, whichever steps of workers and of the writer are made there, if the session has room for an
-- event for each step that is left.
abbrev pub RunsCanEnd : Type 0
RunsCanEnd = (journal events : ℕ) (status : Status) (input left old new : Option (List ℕ)) (served : IsServed journal events status input left old new)
    → (front made : List HistoryEntry) → IsPrefix front served.log → IsLegalHistory (front ++ made) → AreSteps made → HasRoomForSteps (replay_entries beginning front) → CanAnswer front made
