-- What is known of the bytes from the start of a frame on (LSP 3.17, "Base Protocol").
use Rattle.std.specs.Prelude.{◌≡◌, ℕ, ◌-◌, ◌<◌, ◌≤◌, List, ◌++◌, length, take, drop, None, Some, Result, Ok, Err}
use Rattle.std.specs.declared.alloc.AllocError.{AllocError}
use Rattle.ls_frame.specs.Frames.{Frames, IsFrame, HasNoFrame}
use Rattle.ls_frame.specs.Faults.{fault_of}
use Rattle.ls_frame.specs.declared.front.AtFront.{AtFront}
use Rattle.ls_frame.specs.declared.front.AtFront.TheVariants.{Rest as Behind, Frame}
use Rattle.ls_frame.specs.declared.front.Taken.{Taken}
use Rattle.ls_frame.specs.declared.front.Rest.{Rest}
use Rattle.ls_frame.specs.declared.front.Rest.TheVariants.{Open, Faulty}

-- no fault, and no whole frame at the front
abbrev pub IsQuiet : List ℕ → Type 0
IsQuiet bytes = (fault_of bytes ≡ None) × HasNoFrame bytes

-- However the bytes go on, they stay quiet while they are fewer than this.
abbrev pub IsQuietBelow : List ℕ → ℕ → Type 0
IsQuietBelow bytes wanted = (more : List ℕ) → length (bytes ++ more) < wanted → IsQuiet (bytes ++ more)

-- bytes that no whole frame begins
abbrev pub RestIs : List ℕ → Rest → Type 0
RestIs bytes (Open wanted) = IsQuiet bytes × IsQuietBelow bytes wanted
RestIs bytes (Faulty fault) = (fault_of bytes ≡ Some fault) × HasNoFrame bytes

-- what the bytes begin with
abbrev pub FrontIs : List ℕ → AtFront → Type 0
FrontIs bytes (Behind rest) = RestIs bytes rest
FrontIs bytes (Frame from end) = (0 < end) × (from ≤ end) × (end ≤ length bytes) × IsFrame (take end bytes) (take (end - from) (drop from bytes))

-- The bytes are frames with these contents, which take up so many bytes, and then a rest.
abbrev pub SplitIs : List ℕ → List (List ℕ) → ℕ → Rest → Type 0
SplitIs bytes contents used rest = (used ≤ length bytes) × Frames (take used bytes) contents × RestIs (drop used bytes) rest

-- The contents of the frames that the bytes begin with are appended: before and after are those that have been given.
abbrev pub TakenIs : List ℕ → List (List ℕ) → Result Taken AllocError → List (List ℕ) → Type 0
TakenIs bytes before (Ok taken) after = (contents : List (List ℕ)) × (length contents ≡ taken.count) × (after ≡ before ++ contents)
    × SplitIs bytes contents taken.used taken.rest
TakenIs bytes before (Err refused) after = after ≡ before
