-- Places between two characters of a line, over the lines that a snapshot holds. No public contract cites this.
use Rattle.std.specs.Prelude.{◌≡◌, zero, suc, ◌+◌, ◌<◌, length, take, drop, ℕ, List, [], ◌∷◌}
use Rattle.std.specs.Str.{chars, encode_utf8_all, IsUtf8, IsCharBoundary}
use Rattle.ls_text.specs.Cut.{Row, line_text, text_at, start_of}
use Rattle.ls_text.specs.declared.edit.Spot.{Spot}

-- the bytes of line m
abbrev pub bytes_at : List Row → ℕ → List ℕ
bytes_at [] m = []
bytes_at (l ∷ ls) zero = encode_utf8_all (line_text l)
bytes_at (l ∷ ls) (suc m) = bytes_at ls m

-- the characters of its line before a spot
abbrev pub front_of : List Row → Spot → List ℕ
front_of ls s = chars (take s.bytes (bytes_at ls s.line))

-- the characters of its line after a spot, without the line end
abbrev pub back_of : List Row → Spot → List ℕ
back_of ls s = chars (drop s.bytes (bytes_at ls s.line))

-- a spot stands in a line, between two characters, at this offset of the text
pub record IsSpot (ls : List Row) (s : Spot) : Type 0 where
  pub line_in_range : s.line < length ls
  pub utf8 : IsUtf8 (bytes_at ls s.line)
  pub characters : chars (bytes_at ls s.line) ≡ text_at ls s.line
  pub boundary : IsCharBoundary (bytes_at ls s.line) s.bytes
  pub offset_is : s.offset ≡ start_of ls s.line + length (front_of ls s)
