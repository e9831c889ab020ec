-- When a seat has nothing to wait for.
use Rattle.std.specs.Prelude.{ℕ, ◌≡◌, ◌<◌, List, length, slice_index_or, nat_lt, ◌==◌, ◌&&◌, ◌||◌, Bool, true, false, Option, Some, None, is_some, find}
use Rattle.std.specs.List.{position}
use Rattle.ls_machine.specs.Machine.{is_queued}
use Rattle.ls_desk.specs.Stands.{Seen, state_of}
use Rattle.ls_history.specs.declared.history_entry.Stop.{Stop}
use Rattle.ls_history.specs.declared.history_entry.Stop.TheVariants.{Drain, Now}

-- A worker has nothing to wait for: a job is queued, or the board has ended.
abbrev pub has_job : Option Stop → Seen → Bool
has_job stop desk = is_some stop || is_some (find is_queued (state_of desk).waiting)

-- the least number of a worker that waits, if one does; the list says of each worker, at its number, whether it waits
abbrev pub first_waiting : List Bool → Option ℕ
first_waiting idle = position (λ waits. waits) idle

-- There is a worker that waits, and it is the one of this number.
abbrev pub is_this_number : ℕ → Option ℕ → Bool
is_this_number number None = false
is_this_number number (Some first) = first == number

-- The worker of this number is the first that waits.
abbrev pub is_first : List Bool → ℕ → Bool
is_first idle number = is_this_number number (first_waiting idle)

-- The worker of this number has nothing to wait for: the board has ended, or a job is queued and this is the first that waits. So jobs that
-- come one at a time are run by one worker.
abbrev pub has_job_for : Option Stop → Seen → List Bool → ℕ → Bool
has_job_for stop desk idle number = is_some stop || (is_some (find is_queued (state_of desk).waiting) && is_first idle number)

-- The worker of this number waits, and none of a lesser number.
pub record IsFirstWaiting (idle : List Bool) (number : ℕ) : Type 0 where
  pub waits : slice_index_or idle number false ≡ true
  pub before : (k : ℕ) → k < number → slice_index_or idle k false ≡ false

-- The writer has nothing to wait for: a reply is unsent, or the board has ended at once, or it has ended by `Drain` and no job waits.
abbrev pub has_news : Option Stop → Seen → Bool
has_news None desk = nat_lt 0 (length desk.outbox)
has_news (Some Drain) desk = nat_lt 0 (length desk.outbox) || (length (state_of desk).waiting == 0)
has_news (Some Now) desk = true
