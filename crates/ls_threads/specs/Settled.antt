-- How a run that ended well leaves its desk.
use Rattle.std.specs.Prelude.{◌≡◌, ◌<◌, ◌+◌, ◌⊎◌, ◌==◌, ◌&&◌, ℕ, [], length, Bool, false, nat_lt, if◌then◌else◌}
use Rattle.ls_session.specs.declared.turn.Status.{Status}
use Rattle.ls_session.specs.declared.turn.Status.TheVariants.{Full}
use Rattle.ls_desk.specs.Stands.{Seen, state_of, used}
use Rattle.ls_threads.specs.Ends.{has_met_full_session, has_ended_itself, is_read}
use Rattle.ls_devices.specs.declared.reading.ReaderEnd.{ReaderEnd}
use Rattle.ls_threads.specs.declared.ending.Early.{Early}
use Rattle.ls_devices.specs.declared.reading.ReaderEnd.TheVariants.{Ended}
use Rattle.ls_threads.specs.declared.ending.Worked.{Worked}

-- So little is left of so many events that an event may find the session full: the events and the unsent replies are within 1,025 of that
-- limit. The dearest event, a change or a close, needs a place for itself and one for each request that it ends, of which at most 1,024
-- wait.
abbrev pub is_nearly_full : ℕ → Seen → Bool
is_nearly_full events desk = nat_lt events (used desk + 1025)

-- No job waits, and no reply is unsent.
abbrev pub is_done : Seen → Bool
is_done desk = (length (state_of desk).waiting == 0) && (length desk.outbox == 0)

-- The desk is as these ends leave it: nearly full where one of them met a full session; else the reader ended by itself, and all is done.
abbrev pub is_settled : ℕ → ReaderEnd Early → Worked → Seen → Bool
is_settled events h k desk = if has_met_full_session h k then is_nearly_full events desk else (has_ended_itself h && is_done desk)

-- With a status that is answered no read has failed, and nothing is unsent. The status is the reader's, and no job waits; or it says that
-- the session is full, and the desk is as near its limit as that.
pub record IsSettled (events : ℕ) (status : Status) (end : ReaderEnd Early) (desk : Seen) : Type 0 where
  pub read : is_read end ≡ false
  pub sent : desk.outbox ≡ []
  pub done : ((end ≡ Ended status) × ((state_of desk).waiting ≡ [])) ⊎ ((status ≡ Full) × (events < used desk + 1025))
