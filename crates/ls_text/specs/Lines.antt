-- Lines and offsets of a text, which is a list of characters: Unicode scalar values (LSP 3.17, "Text Documents" and "Position").
-- What counts the units of a line takes the width of a character as a parameter: `units` says it for each encoding on which client and server
-- may agree.
use Rattle.std.specs.Prelude.{ℕ, zero, suc, ◌+◌, ◌-◌, min, Bool, false, not, ◌&&◌, ◌||◌, ◌==◌, nat_le, nat_lt, if◌then◌else◌, Option, Some, None, unwrap_or, List, [], ◌∷◌, length, take, drop, sum_by, slice_index}
use Rattle.std.specs.Char.{len_utf8}
use Rattle.ls_text.specs.declared.position.Encoding.{Encoding}
use Rattle.ls_text.specs.declared.position.Encoding.TheVariants.{Utf8, Utf16, Utf32, Markdown, Xml}
use Rattle.ls_text.specs.declared.position.Units.{Units}
use Rattle.ls_text.specs.declared.position.Units.TheVariants as counted

-- how many bytes of UTF-8 a text of a document may have: 4,194,304, a limit of this project
abbrev pub max_bytes : ℕ
max_bytes = 4_194_304

-- LF or CR
abbrev pub is_break : ℕ → Bool
is_break c = c == 10 || c == 13

-- the text begins with LF
abbrev pub starts_with_lf : List ℕ → Bool
starts_with_lf t = slice_index t 0 == 10

-- the text ends with CR
abbrev pub ends_with_cr : List ℕ → Bool
ends_with_cr [] = false
ends_with_cr (c ∷ []) = c == 13
ends_with_cr (c ∷ d ∷ t) = ends_with_cr (d ∷ t)

-- A line end is CRLF, else LF or CR, and nothing else. One ends with the character c, before t: c is LF, or a CR that no LF follows
abbrev pub ends_line : ℕ → List ℕ → Bool
ends_line c t = c == 10 || (c == 13 && not (starts_with_lf t))

-- how many line ends a text has, one fewer than it has lines
unfoldable pub line_ends : List ℕ → ℕ
line_ends [] = 0
line_ends (c ∷ t) = (if ends_line c t then 1 else 0) + line_ends t

-- what follows the last line end of a text, or all of it where there is none
unfoldable pub last_line : List ℕ → List ℕ
last_line [] = []
last_line (c ∷ t) = if line_ends (c ∷ t) == 0 then c ∷ t else last_line t

-- lines with a character put before the first
abbrev pub put_first : ℕ → List (List ℕ) → List (List ℕ)
put_first c [] = (c ∷ []) ∷ []
put_first c (l ∷ ls) = (c ∷ l) ∷ ls

-- the lines of a text without their line ends, which are CRLF, LF and CR and nothing else: one more than it has line ends
-- (LSP 3.17, "Text Documents")
unfoldable pub lines : List ℕ → List (List ℕ)
lines [] = [] ∷ []
lines (c ∷ t) = if ends_line c t then [] ∷ lines t else (if c == 13 then lines t else put_first c (lines t))

-- whether an offset stands between CR and LF
abbrev pub splits_crlf : List ℕ → ℕ → Bool
splits_crlf t o = ends_with_cr (take o t) && starts_with_lf (drop o t)

-- an offset counts characters, from 0 to the length, and doesn't stand between CR and LF
abbrev pub is_offset : List ℕ → ℕ → Bool
is_offset t o = nat_le o (length t) && not (splits_crlf t o)

-- the line of the offset o, from 0: the line ends wholly before it
abbrev pub line_at : List ℕ → ℕ → ℕ
line_at t o = line_ends (take o t)

-- the UTF-16 units of a character
abbrev pub utf16_len : ℕ → ℕ
utf16_len c = if nat_lt c 0x1_0000 then 1 else 2

-- what the positions in a text count, that of a draft as in a grammar
abbrev pub units_of : Encoding → Units
units_of Utf8 = counted.Utf8
units_of Utf16 = counted.Utf16
units_of Utf32 = counted.Utf32
units_of (Markdown counts) = counts
units_of (Xml counts) = counts

-- the units of a character (LSP 3.17, "PositionEncodingKind"): its bytes of UTF-8, its UTF-16 units, or the character itself
abbrev pub width_in : Units → ℕ → ℕ
width_in counted.Utf8 = len_utf8
width_in counted.Utf16 = utf16_len
width_in counted.Utf32 = λ c. 1

-- those that count for the positions in such a text
abbrev pub units : Encoding → ℕ → ℕ
units encoding = width_in (units_of encoding)

-- the units of the characters of that line before the offset o, by the width of a character
abbrev pub units_at : (ℕ → ℕ) → List ℕ → ℕ → ℕ
units_at width t o = sum_by width (last_line (take o t))

-- the greatest number up to n that passes
unfoldable pub greatest : (ℕ → Bool) → ℕ → Option ℕ
greatest p zero = if p 0 then Some 0 else None
greatest p (suc n) = if p (suc n) then Some (suc n) else greatest p n

-- whether the offset o has the line l and at most c units
abbrev pub is_within : (ℕ → ℕ) → List ℕ → ℕ → ℕ → ℕ → Bool
is_within width t l c o = is_offset t o && (line_at t o == l && nat_le (units_at width t o) c)

-- The offset of c units in line l: the greatest that has this line and at most c units, or the text's length where none has the line.
-- So units past the line's end mean the end of the line, before its line end, and units inside a character mean its start
unfoldable pub offset_of : (ℕ → ℕ) → List ℕ → ℕ → ℕ → ℕ
offset_of width t l c = unwrap_or (greatest (is_within width t l c) (length t)) (length t)

-- an offset lowered to the length, and by one between CR and LF
unfoldable pub lowered : List ℕ → ℕ → ℕ
lowered t o = if splits_crlf t (min o (length t)) then min o (length t) - 1 else min o (length t)

-- how many characters at the front of a text have at most c units together
unfoldable pub fitting : (ℕ → ℕ) → List ℕ → ℕ → ℕ
fitting width [] c = 0
fitting width (x ∷ xs) c = if nat_le (width x) c then suc (fitting width xs (c - width x)) else 0
