-- What a run has read and written.
use Rattle.std.specs.Prelude.{◌≡◌, ℕ, Bool, true, false, List, ◌++◌, Option, None, Some, Result, Ok, Err, unwrap_or}
use Rattle.std.specs.Io.KnownBytes.{Appends}
use Rattle.ls_frame.specs.Frames.{Stream}
use Rattle.ls_frame.specs.Faults.{fault_of}
use Rattle.ls_steps.specs.Runs.{Going, begun}
use Rattle.ls_steps.specs.Plain.{Says}
use Rattle.ls_session.specs.declared.turn.Status.{Status}
use Rattle.ls_devices.specs.Devices.{AppendsPrefix}
use Rattle.ls_devices.specs.Ends.{end_status}
use Rattle.ls_devices.specs.Reading.{InputIs}
use Rattle.ls_devices.specs.declared.reading.ReaderEnd.{ReaderEnd}
use Rattle.ls_devices.specs.declared.reading.ReaderEnd.TheVariants.{Broken, Ended, Failed}
use Rattle.ls_devices.specs.declared.fault.ServeFault.{ServeFault}
use Rattle.ls_devices.specs.declared.fault.ServeFault.TheVariants.{Read, Write, Strayed, Memory}

-- What is said on these contents (`Says`), from a state on, has been written. A job in it may have been refused memory.
pub record Written (state : Going) (contents : List (List ℕ)) (after : Going) (old new : Option (List ℕ)) : Type 0 where
  pub bytes : List ℕ
  pub said : Says true state contents after bytes
  pub written : Appends old new bytes

-- A prefix of what is said on the first of these contents has been written.
pub record WrittenPrefix (state : Going) (contents : List (List ℕ)) (old new : Option (List ℕ)) : Type 0 where
  pub answered : List (List ℕ)
  pub left : List (List ℕ)
  pub contents_are : contents ≡ answered ++ left
  pub after : Going
  pub bytes : List ℕ
  pub said : Says true state answered after bytes
  pub written : AppendsPrefix old new bytes

-- A run broke off because a write failed.
abbrev pub is_write : {A : Type 0} → Result A ServeFault → Bool
is_write (Ok x) = false
is_write (Err Read) = false
is_write (Err Write) = true
is_write (Err Strayed) = false
is_write (Err Memory) = false

-- how reading ended, by the result of a run
abbrev pub end_by : Result Status ServeFault → ReaderEnd ServeFault
end_by (Ok status) = Ended status
end_by (Err Read) = Failed
end_by (Err Write) = Broken Write
end_by (Err Strayed) = Broken Strayed
end_by (Err Memory) = Broken Memory

-- What must have come for this result: `spent` for `Read`, `failed` for `Write`. That the run has strayed never comes.
abbrev pub MayEndWith : Type 0 → Type 0 → Result Status ServeFault → Type 0
MayEndWith spent failed (Ok status) = Unit {0}
MayEndWith spent failed (Err Read) = spent
MayEndWith spent failed (Err Write) = failed
MayEndWith spent failed (Err Strayed) = ⊥
MayEndWith spent failed (Err Memory) = Unit {0}

-- These contents are answered from the beginning on, and the session has this status then.
abbrev pub HasAnswered : Option (List ℕ) → Option (List ℕ) → List (List ℕ) → Option Status → Type 0
HasAnswered old new contents status = (after : Going) × ((after.status ≡ status) × Written begun contents after old new)

-- What a run has read of the input and written, by its result. With Ok it is what is said on the messages up to an exit, the end, a framing
-- fault or the event that finds the session full; after `Read` what is said on the frames that were read; after any other fault a prefix of
-- what is said on the first of the messages. `spent` and `failed` say where `Read` and `Write` may stand.
abbrev pub ServedIs : Option (List ℕ) → Option (List ℕ) → Type 0 → Type 0 → Option (List ℕ) → Result Status ServeFault → Option (List ℕ) → Type 0
ServedIs input left spent failed old result new = MayEndWith spent failed result × InputIs
    (λ contents. HasAnswered old new contents None) (HasAnswered old new) (λ fault contents. WrittenPrefix begun contents old new) input left (end_by result)

-- the status of a run: how its session ended, or else what stands behind its last frame
abbrev pub last_status : Going → List ℕ → Status
last_status after rest = unwrap_or after.status (end_status (fault_of rest) rest)

-- What a run on a whole input ends with and says, where no device fails and no memory is refused but in jobs, and in these only where
-- `may_fail` is true: such a request is answered with an error. Where it is false there is one output, and only one
-- (`inputs_have_one_output`).
abbrev pub IsOutput : Bool → List ℕ → Status → List ℕ → Type 0
IsOutput may_fail input status bytes = (contents : List (List ℕ)) × (rest : List ℕ) × (after : Going)
    × (Stream input contents rest × Says may_fail begun contents after bytes × (status ≡ last_status after rest))

-- A run on a whole input with this status and these bytes as its output: what is left of the input, and what is written. After a fault that
-- is a prefix of the output; where a read failed, it is what is said on the messages that had been read.
abbrev pub RunIs : List ℕ → Status → List ℕ → Option (List ℕ) → Option (List ℕ) → Result Status ServeFault → Option (List ℕ) → Type 0
RunIs input status bytes left old (Ok answer) new = (answer ≡ status) × Appends old new bytes
RunIs input status bytes left old (Err Read) new = (read : List ℕ) × (unread : List ℕ) × (contents : List (List ℕ)) × (rest : List ℕ) × (after : Going)
    × ((left ≡ Some unread) × (input ≡ read ++ unread) × Stream read contents rest × Written begun contents after old new × AppendsPrefix old new bytes)
RunIs input status bytes left old (Err Write) new = AppendsPrefix old new bytes
RunIs input status bytes left old (Err Strayed) new = ⊥
RunIs input status bytes left old (Err Memory) new = AppendsPrefix old new bytes

-- An input that is known has an output, and the run on it is that of this output, by its result.
abbrev pub RunsToOutput : Option (List ℕ) → Option (List ℕ) → Option (List ℕ) → Result Status ServeFault → Option (List ℕ) → Type 0
RunsToOutput told left old result new = (input : List ℕ) → told ≡ Some input → (status : Status) × (bytes : List ℕ) × IsOutput true input status bytes × RunIs input status bytes left old result new
