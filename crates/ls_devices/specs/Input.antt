-- What is read of an input, piece after piece, and what is made of the contents of its frames.
use Rattle.std.specs.Prelude.{◌≡◌, ◌++◌, ℕ, List, Option, None, Some}
use Rattle.ls_frame.specs.Frames.{Stream}
use Rattle.ls_frame.specs.Faults.{fault_of}
use Rattle.ls_devices.specs.Ends.{status_or}
use Rattle.ls_session.specs.declared.turn.Status.{Status}

-- Bytes come after a rest. This is made of the contents of the frames that they complete (they are answered, or heard), and the input goes
-- on with this rest.
pub record ComesMore (Made : List (List ℕ) → Type 0) (rest bytes after_rest : List ℕ) : Type 0 where
  pub contents : List (List ℕ)
  pub stream : Stream (rest ++ bytes) contents after_rest
  pub fault : fault_of after_rest ≡ None
  pub made : Made contents

-- Bytes come after a rest. This is made of the contents that they complete, and an exit among them or a fault behind them gives this
-- status.
pub record ComesToEnd (Made : List (List ℕ) → Option Status → Type 0) (rest bytes : List ℕ) (status : Status) : Type 0 where
  pub contents : List (List ℕ)
  pub last : List ℕ
  pub exit : Option Status
  pub stream : Stream (rest ++ bytes) contents last
  pub status_is : status_or exit (fault_of last) ≡ Some status
  pub made : Made contents exit

-- Bytes come after a rest. This is made of the contents that a prefix of them completes.
pub record BreaksOff (Made : List (List ℕ) → Type 0) (rest bytes : List ℕ) : Type 0 where
  pub part : List ℕ
  pub more : List ℕ
  pub bytes_are : rest ++ bytes ≡ part ++ more
  pub contents : List (List ℕ)
  pub last : List ℕ
  pub stream : Stream part contents last
  pub made : Made contents
