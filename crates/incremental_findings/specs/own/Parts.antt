-- Lines that two texts have alike, at their fronts and at their backs.
use Rattle.std.specs.Prelude.{◌≡◌, ℕ, ◌+◌, ◌<◌, ◌≤◌, List, [], length, slice_index_or}
use Rattle.abnf_token.specs.declared.token.Token.{Token}
use Rattle.abnf_token.specs.Classes.{Text}
use Rattle.abnf_token.specs.Tokens.{TokensOf}
use Rattle.incremental_findings.specs.declared.difference.Difference.{Difference}

-- Each line has tokens.
abbrev pub HasTokens : List Text → Type 0
HasTokens ls = (at : ℕ) → (ts : List Token) × TokensOf at 0 (slice_index_or ls at []) ts

-- a line, or the place behind the last one
abbrev pub IsLineOrEnd : List Text → ℕ → Type 0
IsLineOrEnd ls at = at ≤ length ls

-- the lines before are the same
pub record IsFront (ls others : List Text) (front : ℕ) : Type 0 where
  pub within : (front ≤ length ls) × (front ≤ length others)
  pub same : (n : ℕ) → n < front → slice_index_or ls n [] ≡ slice_index_or others n []

-- the lines from the one place on are those from the other on
pub record IsBack (ls others : List Text) (old new : ℕ) : Type 0 where
  pub within : (old ≤ length ls) × (new ≤ length others)
  pub same : (n : ℕ) → slice_index_or ls (old + n) [] ≡ slice_index_or others (new + n) []
  pub count : length ls + new ≡ length others + old

-- the texts are the same before and behind the part
pub record IsDifference (ls others : List Text) (part : Difference) : Type 0 where
  pub front : IsFront ls others part.front
  pub back : IsBack ls others part.old part.new
  pub order : (part.front ≤ part.old) × (part.front ≤ part.new)
