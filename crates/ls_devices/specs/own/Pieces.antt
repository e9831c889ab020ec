-- What a piece of the input comes to. `Hears`, `Breaks` and `Lacks` are as in `Reading`.
use Rattle.std.specs.Prelude.{◌≡◌, ℕ, List, Option, Some, None, Result, Ok, Err}
use Rattle.ls_frame.specs.declared.fault.FrameFault.{FrameFault}
use Rattle.ls_frame.specs.declared.fault.FrameFault.TheVariants.{Memory}
use Rattle.ls_session.specs.declared.turn.Status.{Status}
use Rattle.ls_session.specs.declared.turn.Status.TheVariants.{BadFrame}
use Rattle.ls_devices.specs.Input.{BreaksOff, ComesMore, ComesToEnd}
use Rattle.ls_devices.specs.Reading.{HearsAll, HearsPrefix, HearsOn}

-- What a fed piece means, once all its messages were heard: reading goes on, a framing fault ends it, or the piece couldn't be taken.
abbrev pub IsEndOfPiece : {F : Type 0} → (F → Type 0) → Result ℕ FrameFault → Result (Option Status) F → Type 0
IsEndOfPiece Lacks (Ok n) result = result ≡ Ok None
IsEndOfPiece {F} Lacks (Err Memory) result = (fault : F) × (result ≡ Err fault) × Lacks fault
IsEndOfPiece Lacks (Err fault) result = result ≡ Ok (Some (BadFrame fault))

-- A piece is taken after a rest, and the messages that it completes are heard, by the answer for the piece.
abbrev pub HearsPiece : {L F : Type 0} → (List ℕ → L → Option Status → L → Type 0) → (List ℕ → L → F → L → Type 0) → (F → Type 0)
    → List ℕ → List ℕ → L → Result (Option Status) F → List ℕ → L → Type 0
HearsPiece Hears Breaks Lacks rest piece old (Ok None) after_rest new = ComesMore (λ bodies. HearsOn Hears bodies old new) rest piece after_rest
HearsPiece Hears Breaks Lacks rest piece old (Ok (Some status)) after_rest new = ComesToEnd (λ bodies exit. HearsAll Hears bodies old exit new) rest piece status
HearsPiece Hears Breaks Lacks rest piece old (Err fault) after_rest new = BreaksOff (λ bodies. HearsPrefix Hears Breaks Lacks fault bodies old new) rest piece
