-- What is heard of the messages of an input, and how reading it ends.
--
-- `Hears` says of a message, by its body, how it is heard: what hears it is before, the status of an exit, and what it is then. `Breaks`
-- says how that breaks off within a message, and why. `Lacks` says which faults stand for a refused allocation.
use Rattle.std.specs.Prelude.{◌≡◌, ◌⊎◌, ◌++◌, ◌∷◌, ℕ, List, [], Option, Some, None, IfNone}
use Rattle.std.specs.Io.KnownBytes.{Consumes, IsAtEnd}
use Rattle.std.specs.declared.alloc.AllocError.{AllocError}
use Rattle.ls_session.specs.declared.turn.Status.{Status}
use Rattle.ls_devices.specs.Ends.{end_status}
use Rattle.ls_devices.specs.Input.{BreaksOff, ComesMore, ComesToEnd}
use Rattle.ls_devices.specs.declared.reading.ReaderEnd.{ReaderEnd}
use Rattle.ls_devices.specs.declared.reading.ReaderEnd.TheVariants.{Ended, Failed, Broken}

-- A fault that a refused allocation is turned into, by what a conversion gives.
abbrev pub IsRefusal : {F : Type 0} → (AllocError → F → Type 0) → F → Type 0
IsRefusal Gives fault = (refused : AllocError) × Gives refused fault

-- Messages are heard in their order, none of which is an exit.
abbrev pub HearsOn : {L : Type 0} → (List ℕ → L → Option Status → L → Type 0) → List (List ℕ) → L → L → Type 0
HearsOn Hears [] old new = new ≡ old
HearsOn {L} Hears (body ∷ bodies) old new = (next : L) × (Hears body old None next × HearsOn Hears bodies next new)

-- Messages are heard in their order: all of them, or up to an exit and not past it.
abbrev pub HearsAll : {L : Type 0} → (List ℕ → L → Option Status → L → Type 0) → List (List ℕ) → L → Option Status → L → Type 0
HearsAll Hears bodies old None new = HearsOn Hears bodies old new
HearsAll {L} Hears bodies old (Some status) new = (before : List (List ℕ)) × (last : List ℕ) × (unheard : List (List ℕ)) × (next : L)
    × ((bodies ≡ before ++ last ∷ unheard) × HearsOn Hears before old next × Hears last next (Some status) new)

-- Within the first of these messages it breaks off; or where none is left, by a fault that stands for a refused allocation.
abbrev pub BreaksIn : {L F : Type 0} → (List ℕ → L → F → L → Type 0) → (F → Type 0) → F → List (List ℕ) → L → L → Type 0
BreaksIn Breaks Lacks fault [] old new = Lacks fault × (new ≡ old)
BreaksIn Breaks Lacks fault (body ∷ bodies) old new = Breaks body old fault new

-- A prefix of the messages was heard, and in the rest it broke off.
abbrev pub HearsPrefix : {L F : Type 0} → (List ℕ → L → Option Status → L → Type 0) → (List ℕ → L → F → L → Type 0) → (F → Type 0)
    → F → List (List ℕ) → L → L → Type 0
HearsPrefix {L} Hears Breaks Lacks fault bodies old new = (prefix : List (List ℕ)) × (rest : List (List ℕ)) × (next : L)
    × ((bodies ≡ prefix ++ rest) × HearsOn Hears prefix old next × BreaksIn Breaks Lacks fault rest next new)

-- What was read of an input, by how that ended, and what is made of the messages in it: of those up to an exit or a framing fault; or of
-- all, where the input has ended; or of all that came before a read failed; or of a prefix of them, where it broke off.
abbrev pub InputIs : {F : Type 0} → (List (List ℕ) → Type 0) → (List (List ℕ) → Option Status → Type 0) → (F → List (List ℕ) → Type 0)
    → Option (List ℕ) → Option (List ℕ) → ReaderEnd F → Type 0
InputIs On All Prefix input left (Ended status) = (read : List ℕ) × Consumes input left read
    × (ComesToEnd All [] read status ⊎ (IsAtEnd left × ((rest : List ℕ) × ComesMore On [] read rest × (status ≡ end_status None rest))))
InputIs On All Prefix input left Failed = (read : List ℕ) × (rest : List ℕ) × Consumes input left read × ComesMore On [] read rest
InputIs On All Prefix input left (Broken fault) = (read : List ℕ) × Consumes input left read × BreaksOff (Prefix fault) [] read

-- What was read of an input, by how that ended, and how the messages in it were heard.
pub record HearsInput {L F : Type 0} (Hears : List ℕ → L → Option Status → L → Type 0) (Breaks : List ℕ → L → F → L → Type 0) (Lacks : F → Type 0) (input left : Option (List ℕ)) (old : L)
    (end : ReaderEnd F) (new : L) : Type 0 where
  pub heard : InputIs (λ bodies. HearsOn Hears bodies old new) (λ bodies exit. HearsAll Hears bodies old exit new) (λ fault bodies. HearsPrefix Hears Breaks Lacks fault bodies old new) input left end

-- Whatever it is before, each message is heard in one way at most.
abbrev pub HearsInOneWay : {L : Type 0} → (List ℕ → L → Option Status → L → Type 0) → Type 0
HearsInOneWay {L} Hears = (body : List ℕ) (old new other : L) (exit again : Option Status) → Hears body old exit new → Hears body old again other → (exit ≡ again) × (new ≡ other)

-- What is ready hears each message, and is ready again behind each that isn't an exit.
abbrev pub AlwaysHears : {L : Type 0} → (L → Type 0) → (List ℕ → L → Option Status → L → Type 0) → Type 0
AlwaysHears {L} IsReady Hears = (body : List ℕ) (old : L) → IsReady old → (exit : Option Status) × (new : L) × (Hears body old exit new × IfNone exit (IsReady new))
