-- What the token of an element or of a repeat stands for.
use Rattle.std.specs.Prelude.{ℕ, ◌+◌, ◌*◌, ◌==◌, Bool, ◌||◌, List, [], ◌∷◌, Option, Some, None, if◌then◌else◌, unwrap_or, codes, min}
use Rattle.std.specs.Str.{bytes_eq}
use Rattle.std.specs.Char.{digit_value}
use Rattle.std.specs.List.{list_any, before_first, after_first}
use Rattle.abnf_token.specs.declared.token.Token.{Token}
use Rattle.abnf_token.specs.Classes.{base_of}
use Rattle.abnf_token.specs.Folded.{lowercase}
use Rattle.abnf_token.specs.Numbers.{number_of}
use Rattle.abnf_parts.specs.Part.{Part, quoted, series, span, rep, opaque}

-- what stands before the first such byte, or the whole text
abbrev pub before : ℕ → List ℕ → List ℕ
before byte text = before_first (λ b. b == byte) text

-- what stands behind the first such byte, or nothing
abbrev pub behind : ℕ → List ℕ → List ℕ
behind byte text = after_first (λ b. b == byte) text

-- the byte stands in the text
abbrev pub has : ℕ → List ℕ → Bool
has byte text = list_any (λ b. b == byte) text

-- The text between the quotes, which is exact where `%s` stands before it (RFC 7405 section 2.1).
abbrev pub quoted_part : List ℕ → Part
quoted_part text = quoted (before 0x22 (behind 0x22 text)) (bytes_eq (lowercase (before 0x22 text)) (codes "%s"))

-- the greatest number that a grammar may hold
abbrev pub max_number : ℕ
max_number = 4294967295

-- A number with one more digit. It is cut at the greatest number, which no number of a rule exceeds.
abbrev pub with_digit : ℕ → ℕ → ℕ → ℕ
with_digit base number byte = min (number * base + digit_value byte) max_number

-- `.` or `-`, which stand between the numbers of a series and of a range
abbrev pub is_separator : ℕ → Bool
is_separator b = b == 0x2E || b == 0x2D

-- the numbers between `.` or `-`, where `number` is that of the digits since the last of these
abbrev pub numbers_from : ℕ → ℕ → List ℕ → List ℕ
numbers_from base number [] = number ∷ []
numbers_from base number (b ∷ bs) = if is_separator b then number ∷ numbers_from base 0 bs else numbers_from base (with_digit base number b) bs

-- from the first number to the second
abbrev pub span_of : List ℕ → Part
span_of (low ∷ high ∷ rest) = span low high
span_of _ = opaque

-- Numbers with `-` are a range; others, one or more, are a series (RFC 5234 sections 2.3 and 3.4).
abbrev pub number_tree : ℕ → List ℕ → Part
number_tree base digits = if has 0x2D digits then span_of (numbers_from base 0 digits) else series (numbers_from base 0 digits)

-- the part that the token of a number stands for: behind `%` and the letter of its base its digits (RFC 5234 section 2.3)
abbrev pub number_part : List ℕ → Part
number_part (percent ∷ letter ∷ digits) = number_tree (base_of letter) digits
number_part _ = opaque

-- the two ends of a part that is a range
abbrev pub ends_of : Part → Option (ℕ × ℕ)
ends_of (span low high) = Some (low, high)
ends_of _ = None

-- one more number of a range, behind those that were read: the first is its low end, the second its high end
abbrev pub with_end : Option ℕ × Option ℕ → ℕ → Option ℕ × Option ℕ
with_end (None, high) number = (Some number, high)
with_end (Some low, None) number = (Some low, Some number)
with_end (Some low, Some high) number = (Some low, Some high)

-- the low end and the high end, where both were read
abbrev pub both_ends : Option ℕ × Option ℕ → Option (ℕ × ℕ)
both_ends (Some low, Some high) = Some (low, high)
both_ends _ = None

-- The least and the most of a repeat: of `a*b` a and b, where a is 0 and b has no bound if they don't stand there (RFC 5234
-- section 3.6), of n both n (RFC 5234 section 3.7).
abbrev pub repeat_limits : List ℕ → ℕ × Option ℕ
repeat_limits text =
    if has 0x2A text then (unwrap_or (number_of (before 0x2A text) 10) 0, number_of (behind 0x2A text) 10)
    else (unwrap_or (number_of text 10) 0, Some (unwrap_or (number_of text 10) 0))

-- a part, with a repeat before it or none
abbrev pub repeated : Option Token → Part → Part
repeated None p = p
repeated (Some t) p = let b = repeat_limits t.text.now in rep b.0 b.1 p
