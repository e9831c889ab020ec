-- The lines of a header part, and the content's length as far as they give it.
use Rattle.std.proofs.Common.{◌≡◌, ℕ, ◌≤◌, true, List, [], ◌∷◌, ◌++◌, filter, Option, None, Some}
use Rattle.ls_frame.specs.Frames.{is_length, has_number, number_told}

-- the lengths that the fields give
abbrev pub Gives : List (List ℕ) → Option ℕ → Type 0
Gives fields None = filter is_length fields ≡ []
Gives fields (Some n) = (field : List ℕ) × (filter is_length fields ≡ field ∷ []) × (has_number field ≡ true) × (number_told field ≡ n) × (n ≤ 16777216)

-- a line that has ended stands with its CR
abbrev pub ended_line : List ℕ → List ℕ
ended_line line = line ++ 13 ∷ []
