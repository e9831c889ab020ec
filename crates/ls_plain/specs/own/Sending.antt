-- What has been written of the replies that leave, one after the other.
use Rattle.std.specs.Prelude.{ℕ, true, List, [], ◌∷◌, Option, Result, Ok, Err}
use Rattle.std.specs.Io.KnownBytes.{Appends}
use Rattle.ls_steps.specs.Runs.{Going, Runs, Steps, send}
use Rattle.ls_steps.specs.Plain.{Replies, many_times}
use Rattle.ls_devices.specs.Devices.{AppendsPrefix}
use Rattle.ls_devices.specs.declared.fault.ServeFault.{ServeFault}
use Rattle.ls_devices.specs.declared.fault.ServeFault.TheVariants.{Read, Write, Strayed, Memory}

-- Some replies have left, one after the other, and are written.
pub record SomeSent (state now : Going) (old new : Option (List ℕ)) : Type 0 where
  pub replies : ℕ
  pub bytes : List ℕ
  pub sent : Runs true state (many_times replies (send ∷ [])) now bytes
  pub written : Appends old new bytes

-- Some replies have left and are written, and one more has left, of whose frame a prefix is written.
pub record SentPrefix (state after : Going) (old new : Option (List ℕ)) : Type 0 where
  pub before : Going
  pub between : Option (List ℕ)
  pub earlier : SomeSent state before old between
  pub frame : List ℕ
  pub last : Steps true before send after frame
  pub prefix : AppendsPrefix between new frame

-- All that is kept is sent: what the result says, what the state is then, and what is written. With Ok all of it is; after `Write` a prefix
-- of the last reply that left; after `Memory` those that are written are whole.
abbrev pub SendsIs : Going → Option (List ℕ) → Result Unit ServeFault → Going → Option (List ℕ) → Type 0
SendsIs state old (Ok sent) after new = (replies : ℕ) × (bytes : List ℕ) × Replies true replies state after bytes × Appends old new bytes
SendsIs state old (Err Read) after new = ⊥
SendsIs state old (Err Write) after new = SentPrefix state after old new
SendsIs state old (Err Strayed) after new = ⊥
SendsIs state old (Err Memory) after new = (now : Going) × SomeSent state now old new
