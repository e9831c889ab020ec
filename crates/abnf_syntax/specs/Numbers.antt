-- The numbers of a Repeat and of a Number (RFC 5234 sections 2.3, 3.4, 3.6 and 3.7).
use Rattle.std.specs.Prelude.{ℕ, Bool, true, ◌||◌, nat_eq, List, [], ◌∷◌, ◌++◌, length, drop, slice_index, is_some, if◌then◌else◌}
use Rattle.std.specs.List.{list_all}
use Rattle.abnf_token.specs.declared.token.Kind.{Kind}
use Rattle.abnf_token.specs.declared.token.Kind.TheVariants.{Repeat, Number}
use Rattle.abnf_token.specs.Classes.{Text, base_of}
use Rattle.abnf_token.specs.Numbers.{number_of}

-- `*` stands between the numbers of a repeat, `.` between those of a series and `-` between those of a range
abbrev pub is_sign : ℕ → Bool
is_sign b = nat_eq b 0x2A || (nat_eq b 0x2E || nat_eq b 0x2D)

-- the texts between the signs, where this text has stood since the last of them
abbrev pub parts_from : Text → Text → List Text
parts_from since [] = since ∷ []
parts_from since (b ∷ bs) = if is_sign b then since ∷ parts_from [] bs else parts_from (since ++ b ∷ []) bs

-- the texts between the signs of a repeat or a number
abbrev pub number_pieces : Text → List Text
number_pieces text = parts_from [] text

-- The digits give a number up to 4,294,967,295. None may stand where a repeat leaves a bound out.
abbrev pub is_small : ℕ → Text → Bool
is_small base digits = nat_eq (length digits) 0 || is_some (number_of digits base)

-- each number of the text is at most 4,294,967,295, read in this base
abbrev pub are_small : ℕ → Text → Bool
are_small base text = list_all (is_small base) (number_pieces text)

-- The numbers of a token are at most 4,294,967,295: a repeat has them in base 10, a number behind `%` and a letter in the
-- letter's base, and no other token has one.
abbrev pub numbers_fit : Kind → Text → Bool
numbers_fit Repeat text = are_small 10 text
numbers_fit Number text = are_small (base_of (slice_index text 1)) (drop 2 text)
numbers_fit _ text = true
