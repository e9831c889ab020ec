-- Numbers as the values of their digits, however many there are.
use Rattle.std.specs.Prelude.{◌≡◌, ℕ, [], ◌∷◌, map, drop, slice_index, Option, Some, None, if◌then◌else◌}
use Rattle.abnf_token.specs.declared.token.Kind.{Kind}
use Rattle.abnf_token.specs.declared.token.Kind.TheVariants.{Repeat, Number}
use Rattle.abnf_token.specs.Classes.{Text, base_of}
use Rattle.abnf_token.specs.Numbers.{value_in}
use Rattle.abnf_syntax.specs.Numbers.{number_pieces}
use Rattle.abnf_parts.specs.Leaf.{has, before, behind, repeat_limits, numbers_from}

-- the value of the digits of a bound, if any stand there
abbrev pub bound_of : Text → Option ℕ
bound_of [] = None
bound_of (b ∷ bs) = Some (value_in 10 0 (b ∷ bs))

-- the bounds of a repeat by the values of their digits; that of no digits is 0
abbrev pub uncut_bounds : Text → ℕ × Option ℕ
uncut_bounds text =
    if has 0x2A text then (value_in 10 0 (before 0x2A text), bound_of (behind 0x2A text))
    else (value_in 10 0 text, Some (value_in 10 0 text))

-- A token is read as the values of its digits: a repeat in base 10, a number in the base of the letter behind `%`. No other
-- token has digits that count. So is each item of lines that derive a rule (`numbers_are_uncut`).
abbrev pub IsUncut : Kind → Text → Type 0
IsUncut Repeat text = repeat_limits text ≡ uncut_bounds text
IsUncut Number text = let base = base_of (slice_index text 1) in numbers_from base 0 (drop 2 text) ≡ map (value_in base 0) (number_pieces (drop 2 text))
IsUncut _ text = Unit {0}
