-- What the reader and the writer of frames do (LSP 3.17, "Base Protocol").
use Rattle.std.specs.Prelude.{◌≡◌, ℕ, List, [], ◌∷◌, ◌++◌, map, Option, None, Some, Result, Ok, Err, ◌⊎◌, Vec, length}
use Rattle.std.specs.declared.alloc.Global.{Global}
use Rattle.ls_frame.specs.Frames.{Stream, frame_of}
use Rattle.ls_frame.specs.Faults.{fault_of}
use Rattle.ls_frame.specs.declared.fault.FrameFault.{FrameFault}
use Rattle.ls_frame.specs.declared.fault.FrameFault.TheVariants.{Truncated, Memory}

-- the bytes of each content in a list of them
abbrev pub contents_of : List (Vec ℕ Global) → List (List ℕ)
contents_of out = map (λ content. content.items) out

-- The framer takes a piece at this rest: before and after are the contents that have been given. Those of the frames that are
-- whole now are appended, and without a fault their number is answered. A fault that has been shown stays. Memory is answered
-- only where none has been shown, and then all is as before.
abbrev pub FeedIs : List ℕ → List ℕ → List (List ℕ) → Result ℕ FrameFault → List ℕ → List (List ℕ) → Type 0
FeedIs old piece before (Ok n) new after = (fault_of old ≡ None) × (fault_of new ≡ None)
    × ((contents : List (List ℕ)) × (length contents ≡ n) × (after ≡ before ++ contents) × Stream (old ++ piece) contents new)
FeedIs old piece before (Err Memory) new after = (fault_of old ≡ None) × (new ≡ old) × (after ≡ before)
FeedIs old piece before (Err fault) new after =
    ((fault_of old ≡ Some fault) × (new ≡ old) × (after ≡ before))
    ⊎ ((fault_of old ≡ None) × (fault_of new ≡ Some fault)
    × ((contents : List (List ℕ)) × (after ≡ before ++ contents) × Stream (old ++ piece) contents new))

-- Over all pieces: the bytes seen so far are a stream with the contents given so far, the fault that the framer
-- keeps is the stream's, and while there is none the framer keeps the stream's rest.
pub record SoFar (seen : List ℕ) (given : List (List ℕ)) (kept : List ℕ) : Type 0 where
  pub rest : List ℕ
  pub stream : Stream seen given rest
  pub fault : fault_of kept ≡ fault_of rest
  pub keeps : fault_of kept ≡ None → kept ≡ rest

-- A piece comes behind the bytes seen so far: the contents given so far, with those that are appended, are those of all these
-- bytes (SoFar). Where memory is refused, the piece isn't taken, and all is as before it.
abbrev pub GoesOn : List ℕ → List (List ℕ) → List ℕ → List (List ℕ) → Result ℕ FrameFault → List ℕ → List (List ℕ) → Type 0
GoesOn seen given piece before (Err Memory) new after = SoFar seen given new × (after ≡ before)
GoesOn seen given piece before result new after =
    (contents : List (List ℕ)) × (after ≡ before ++ contents) × SoFar (seen ++ piece) (given ++ contents) new

-- Whether a stream with this fault may end at this rest: its fault, or Truncated where an unfinished frame has bytes.
abbrev pub EndIs : Option FrameFault → List ℕ → Result Unit FrameFault → Type 0
EndIs (Some fault) rest result = result ≡ Err fault
EndIs None [] result = result ≡ Ok tt
EndIs None (b ∷ rest) result = result ≡ Err Truncated

-- The frame with this content is appended, or memory was refused and all is as before.
abbrev pub WriteIs : List ℕ → List ℕ → Result Unit FrameFault → List ℕ → Type 0
WriteIs body before (Ok done) after = after ≡ before ++ frame_of body
WriteIs body before (Err fault) after = (fault ≡ Memory) × (after ≡ before)
