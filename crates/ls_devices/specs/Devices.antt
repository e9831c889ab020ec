-- What devices answer.
use Rattle.std.specs.Prelude.{◌≡◌, ℕ, nat_lt, Bool, true, false, List, ◌++◌, Option, Result, Ok, Err}
use Rattle.std.specs.Io.KnownBytes.{Appends}
use Rattle.ls_devices.specs.declared.device.DeviceFault.{DeviceFault}
use Rattle.ls_devices.specs.declared.device.DeviceFault.TheVariants.{Interrupted, Failed}

-- The device has answered that it failed; that a call was interrupted is no failure.
abbrev pub is_failed : {A : Type 0} → Result A DeviceFault → Bool
is_failed (Ok x) = false
is_failed (Err Interrupted) = false
is_failed (Err Failed) = true

-- A write took a byte or more.
abbrev pub took_bytes : Result ℕ DeviceFault → Bool
took_bytes (Ok n) = nat_lt 0 n
took_bytes (Err fault) = false

-- What was written grows by a prefix of these bytes, where it is known.
abbrev pub AppendsPrefix : Option (List ℕ) → Option (List ℕ) → List ℕ → Type 0
AppendsPrefix old new bytes = (part : List ℕ) × (more : List ℕ) × ((bytes ≡ part ++ more) × Appends old new part)
