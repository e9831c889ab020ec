-- The search for the places from which steps lead to the last place. Each place has its users: the places from which one step leads
-- to it. Only contracts of private functions speak of it.
use Rattle.std.specs.Prelude.{◌≡◌, ◌==◌, ℕ, zero, suc, ◌+◌, ◌<◌, ◌↔◌, Bool, true, false, IsTrue, if◌then◌else◌, List, [], ◌∷◌, ◌++◌, length, slice_index_or, Contains}
use Rattle.std.specs.List.{list_any, sum_by}

-- the users of a place
abbrev pub users_at : List (List ℕ) → ℕ → List ℕ
users_at users place = slice_index_or users place []

-- so many steps lead from the place to the last one
abbrev pub LeadsBy : List (List ℕ) → ℕ → ℕ → Type 0
LeadsBy users zero place = suc place ≡ length users
LeadsBy users (suc steps) place = (next : ℕ) × Contains (users_at users next) place × LeadsBy users steps next

-- some steps lead from the place to the last one
abbrev pub LeadsToLast : List (List ℕ) → ℕ → Type 0
LeadsToLast users place = (steps : ℕ) × LeadsBy users steps place

-- each user is one of the places
abbrev pub AreUsersWithin : List (List ℕ) → Type 0
AreUsersWithin users = (place user : ℕ) → Contains (users_at users place) user → user < length users

-- the marks say of each place whether steps lead from it to the last one
pub record AreReachMarks (users : List (List ℕ)) (marks : List Bool) : Type 0 where
  pub one_each : length marks ≡ length users
  pub each : (place : ℕ) → IsTrue (slice_index_or marks place false) ↔ LeadsToLast users place

-- one more place, unless it is there
abbrev pub with_place : List ℕ → ℕ → List ℕ
with_place places place = if list_any (λ p. p == place) places then places else places ++ place ∷ []

-- 1 without a mark, 0 with one
abbrev pub unmarked : Bool → ℕ
unmarked true = 0
unmarked false = 1

-- the marks are on these places, each of which stands there once
pub record AreMarked (marks : List Bool) (places : List ℕ) : Type 0 where
  pub each : (place : ℕ) → list_any (λ p. p == place) places ≡ slice_index_or marks place false
  pub once : sum_by unmarked marks + length places ≡ length marks
