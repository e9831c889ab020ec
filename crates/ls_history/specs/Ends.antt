-- How a board has ended, by the ends that were asked of it.
use Rattle.std.specs.Prelude.{Bool, true, false, List, [], ◌∷◌, Option, Some, None, if◌then◌else◌}
use Rattle.ls_history.specs.declared.history_entry.HistoryEntry.{HistoryEntry}
use Rattle.ls_history.specs.declared.history_entry.HistoryEntry.TheVariants.{Stopped}
use Rattle.ls_history.specs.declared.history_entry.Stop.{Stop}
use Rattle.ls_history.specs.declared.history_entry.Stop.TheVariants.{Drain, Now}

-- The board has ended at once.
abbrev pub is_over : Option Stop → Bool
is_over None = false
is_over (Some Drain) = false
is_over (Some Now) = true

-- how a board has ended after one more `stop`: as that says, but the end at once is final
abbrev pub ended_by : Option Stop → Stop → Option Stop
ended_by before stop = if is_over before then before else Some stop

-- how it has ended after this entry
abbrev pub ended_with : Option Stop → HistoryEntry → Option Stop
ended_with before (Stopped stop) = ended_by before stop
ended_with before _ = before

-- how it has ended after these entries, from how it had ended before
abbrev pub stop_from : Option Stop → List HistoryEntry → Option Stop
stop_from before [] = before
stop_from before (h ∷ hs) = stop_from (ended_with before h) hs

-- how the board has ended by then, if it has: no board has ended at the beginning
abbrev pub stop_of : List HistoryEntry → Option Stop
stop_of log = stop_from None log
