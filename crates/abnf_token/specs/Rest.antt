-- What an iterator over tokens has before it.
use Rattle.std.specs.Prelude.{◌≡◌, ℕ, false, nat_eq, [], ◌∷◌}
use Rattle.abnf_token.specs.Classes.{Text}

-- The bytes of a line that have not been given yet, the line's number, and how many bytes of the line stand before them.
pub record Rest : Type 0 where
  pub text : Text
  pub line : ℕ
  pub start : ℕ

-- No byte of the text is `>`.
abbrev pub HasNoClose : Text → Type 0
HasNoClose [] = Unit {0}
HasNoClose (b ∷ bs) = (nat_eq b 0x3E ≡ false) × HasNoClose bs
