-- Which of the known names is meant where another one stands that isn't known. Names are read without case (RFC 5234 section
-- 2.1).
use Rattle.std.specs.Prelude.{◌≡◌, ℕ, ◌<◌, ◌≤◌, Bool, true, ◌&&◌, nat_le, nat_eq, max, ◌/◌, List, [], ◌∷◌, ◌++◌, All, length, Option, Some, None, if◌then◌else◌}
use Rattle.strsim.specs.Edits.{levenshtein_row}
use Rattle.abnf_token.specs.Folded.{lowercase}

-- How many letters are put in, taken out or changed at least where one name is made of the other, by the table of `strsim`
-- (`levenshtein_row`); letters are read without case.
abbrev pub distance : List ℕ → List ℕ → ℕ
distance name other = levenshtein_row nat_eq (lowercase name) (lowercase other) (length (lowercase other))

-- how far near names are apart at most: a third of the longer one's length, and 1 of short ones
abbrev pub reach : List ℕ → List ℕ → ℕ
reach name other = max (max (length name) (length other) / 3) 1

-- Names of these lengths are compared: one letter has nothing in common with another, and each comparison takes a bounded time.
abbrev pub is_compared_name : List ℕ → Bool
is_compared_name name = nat_le 2 (length name) && nat_le (length name) 64

-- the distance is within reach, and both names have 2 to 64 bytes
abbrev pub is_near : List ℕ → List ℕ → Bool
is_near name other = is_compared_name name && is_compared_name other && nat_le (distance name other) (reach name other)

-- a name ahead of the nearest of those behind it: of two that are as near it is the first
abbrev pub nearer : List ℕ → List ℕ → Option (List ℕ) → Option (List ℕ)
nearer name other None = if is_near name other then Some other else None
nearer name other (Some found) = if is_near name other && nat_le (distance name other) (distance name found) then Some other else Some found

-- of the known names that are near the nearest, the first of those that are as near; none where none is near
abbrev pub nearest : List ℕ → List (List ℕ) → Option (List ℕ)
nearest name [] = None
nearest name (other ∷ known) = nearer name other (nearest name known)

-- ---- the same as a relation

-- the other name is near this one
abbrev pub IsNear : List ℕ → List ℕ → Type 0
IsNear name other = is_near name other ≡ true

-- It is a known name and near, no name is nearer, and none before it is as near.
pub record IsNearest (name : List ℕ) (known : List (List ℕ)) (found : List ℕ) : Type 0 where
  pub before : List (List ℕ)
  pub after : List (List ℕ)
  pub split : known ≡ before ++ found ∷ after
  pub near : IsNear name found
  pub first : All (λ other. IsNear name other → distance name found < distance name other) before
  pub least : All (λ other. IsNear name other → distance name found ≤ distance name other) after

-- This is the nearest of the known names, or none where none is near. There is such an answer (`nearest_names_are_nearest`),
-- and no other (`nearest_names_are_unique`).
abbrev pub IsNearAnswer : List ℕ → List (List ℕ) → Option (List ℕ) → Type 0
IsNearAnswer name known None = All (λ other. IsNear name other → ⊥) known
IsNearAnswer name known (Some found) = IsNearest name known found

-- ---- how the code compares

-- the distance of a near name
abbrev pub near_distance : List ℕ → List ℕ → Option ℕ
near_distance name other = if is_near name other then Some (distance name other) else None
