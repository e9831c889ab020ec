-- What the ends of the threads make of a run.
use Rattle.std.specs.Prelude.{◌||◌, ℕ, List, [], ◌∷◌, Bool, true, false, not, nat_lt, Option, Some, None, Result, Ok, Err, if◌then◌else◌}
use Rattle.ls_machine.specs.declared.event.DeskFault.{DeskFault}
use Rattle.ls_machine.specs.declared.event.DeskFault.TheVariants as desk
use Rattle.ls_devices.specs.declared.fault.ServeFault.{ServeFault}
use Rattle.ls_devices.specs.declared.fault.ServeFault.TheVariants as fault
use Rattle.ls_session.specs.declared.turn.Status.{Status}
use Rattle.ls_session.specs.declared.turn.Status.TheVariants as status
use Rattle.ls_threads.specs.declared.ending.Early.{Early}
use Rattle.ls_threads.specs.declared.ending.Early.TheVariants as early
use Rattle.ls_devices.specs.declared.reading.ReaderEnd.{ReaderEnd}
use Rattle.ls_devices.specs.declared.reading.ReaderEnd.TheVariants as reader
use Rattle.ls_threads.specs.declared.ending.Wrote.{Wrote}
use Rattle.ls_threads.specs.declared.ending.Wrote.TheVariants as wrote
use Rattle.ls_threads.specs.declared.ending.Worked.{Worked}
use Rattle.ls_threads.specs.declared.ending.Worked.TheVariants as worked

-- The source failed, or was read as often as one session may.
abbrev pub is_read : ReaderEnd Early → Bool
is_read reader.Failed = true
is_read _ = false

-- The sink failed.
abbrev pub has_failed : Wrote → Bool
has_failed wrote.Failed = true
has_failed _ = false

-- A worker ran what the desk doesn't know.
abbrev pub has_strayed : Worked → Bool
has_strayed worked.Strayed = true
has_strayed _ = false

-- One of the threads was refused memory.
abbrev pub lacked_memory : ReaderEnd Early → Wrote → Worked → Bool
lacked_memory (reader.Broken early.Memory) w k = true
lacked_memory h wrote.Memory k = true
lacked_memory h w worked.Memory = true
lacked_memory h w k = false

-- The reader or a worker found the session full.
abbrev pub has_met_full_session : ReaderEnd Early → Worked → Bool
has_met_full_session (reader.Broken early.Full) k = true
has_met_full_session h worked.Full = true
has_met_full_session h k = false

-- The reader ended by itself: neither the source nor another thread broke it off.
abbrev pub has_ended_itself : ReaderEnd Early → Bool
has_ended_itself (reader.Ended s) = true
has_ended_itself _ = false

-- the reader's own status, unclean where it broke off
abbrev pub readers_status : ReaderEnd Early → Status
readers_status (reader.Ended s) = s
readers_status _ = status.Unclean

-- the causes of which each may hold, in the order of this table, with what each makes of the run: the source failed, the sink failed, the
-- board wasn't closed or a worker has strayed, memory was refused, its desk isn't settled, the session was full
abbrev pub causes : ReaderEnd Early → Wrote → Worked → Bool → Bool → List (Bool × Result Status ServeFault)
causes h w k audited settled =
    (is_read h, Err fault.Read)
    ∷ (has_failed w, Err fault.Write)
    ∷ (not audited || has_strayed k, Err fault.Strayed)
    ∷ (lacked_memory h w k, Err fault.Memory)
    ∷ (not settled, Err fault.Strayed)
    ∷ (has_met_full_session h k, Ok status.Full)
    ∷ []

-- what the first cause that holds makes of the run, or else the last resort
abbrev pub first_that_holds : {A : Type 0} → List (Bool × A) → A → A
first_that_holds [] last = last
first_that_holds ((holds, x) ∷ rest) last = if holds then x else first_that_holds rest last

-- what a run answers, where all its threads could be made: by the first of these causes, else the reader's status
abbrev pub result_of : ReaderEnd Early → Wrote → Worked → Bool → Bool → Result Status ServeFault
result_of h w k audited settled = first_that_holds (causes h w k audited settled) (Ok (readers_status h))

-- how the reader broke off, by the fault that the board answered
abbrev pub early_by : DeskFault → Early
early_by desk.SessionFull = early.Full
early_by fault = early.Memory

-- how a worker ended, by the fault that ended its work early, if one did
abbrev pub worked_by : Option DeskFault → Worked
worked_by None = worked.All
worked_by (Some desk.SessionFull) = worked.Full
worked_by (Some desk.Memory) = worked.Memory
worked_by (Some _) = worked.Strayed

-- how much the end of a worker counts, where several workers ended in several ways
abbrev pub weight : Worked → ℕ
weight worked.All = 0
weight worked.Full = 1
weight worked.Memory = 2
weight worked.Strayed = 3

-- of the ends of two workers the one that counts for more
abbrev pub worse : Worked → Worked → Worked
worse j k = if nat_lt (weight j) (weight k) then k else j
