-- Whether the numbers of a token are small enough, byte by byte. Only the contract of a private function speaks of it.
use Rattle.std.specs.Prelude.{ℕ, ◌+◌, ◌*◌, ◌^◌, Bool, true, ◌&&◌, nat_lt, [], ◌∷◌, if◌then◌else◌}
use Rattle.std.specs.Char.{digit_value}
use Rattle.abnf_token.specs.Classes.{Text}
use Rattle.abnf_syntax.specs.Numbers.{is_sign}

-- No number of the text is too large, where digits of this value stand before it, byte by byte.
abbrev pub fit : ℕ → ℕ → Text → Bool
fit base value [] = true
fit base value (b ∷ bs) =
    if is_sign b then fit base 0 bs
    else (nat_lt (digit_value b) base && (nat_lt (value * base + digit_value b) (2 ^ 32) && fit base (value * base + digit_value b) bs))
