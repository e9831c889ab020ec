-- What waits in a queue.
use Rattle.std.specs.Prelude.{◌≡◌, ℕ, ◌<◌, ◌≤◌, ◌⊎◌, Bool, false, List, ◌∷◌, length, slice_index_or}
use Rattle.std.specs.List.{Contains}
use Rattle.std.specs.List.Sorted.{IsPermutation}
use Rattle.abnf_least.specs.declared.candidate.Candidate.{Candidate}
use Rattle.abnf_least.specs.own.Form.{is_before}

-- the pair of x comes before that of y
abbrev pub comes_before : Candidate → Candidate → Bool
comes_before x y = is_before x.length x.height y.length y.height

-- the pair of x comes before that of y, or is the same
abbrev pub NotAfter : Candidate → Candidate → Type 0
NotAfter x y = (x.length < y.length) ⊎ ((x.length ≡ y.length) × (x.height ≤ y.height))

-- x is one of these candidates, and comes after none of them
abbrev pub IsFirstCandidate : List Candidate → Candidate → Type 0
IsFirstCandidate all x = Contains all x × ((y : Candidate) → Contains all y → NotAfter x y)

-- x comes before none of these candidates
abbrev pub ComesLast : List Candidate → Candidate → Type 0
ComesLast all x = (y : Candidate) → Contains all y → NotAfter y x

-- each of these candidates comes before none of those in front of it
abbrev pub IsInOrder : List Candidate → Type 0
IsInOrder row = (i j : ℕ) (d : Candidate) → i < j → j < length row → comes_before (slice_index_or row j d) (slice_index_or row i d) ≡ false

-- x joins what waits, and nothing else comes or goes, up to order
abbrev pub JoinsQueue : List Candidate → Candidate → List Candidate → Type 0
JoinsQueue old x new = IsPermutation (x ∷ old) new

-- x leaves what waits, where it came after none of the others, and these stay, up to order
pub record LeavesQueue (old : List Candidate) (x : Candidate) (new : List Candidate) : Type 0 where
  pub others : IsPermutation old (x ∷ new)
  pub least : (y : Candidate) → Contains old y → NotAfter x y
