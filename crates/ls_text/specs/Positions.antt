-- Positions and places of a text (LSP 3.17, "Position").
use Rattle.std.specs.Prelude.{ℕ, List, sum_by, take}
use Rattle.std.specs.Char.{len_utf8}
use Rattle.ls_text.specs.Lines.{line_at, units_at, offset_of, lowered, fitting}
use Rattle.ls_text.specs.declared.position.Encoding.{Encoding}
use Rattle.ls_text.specs.declared.position.Position.{Position}
use Rattle.ls_text.specs.declared.position.Range.{Range}
use Rattle.ls_text.specs.declared.position.Place.{Place}

-- the position of an offset, lowered to the length, and by one between CR and LF: its line, and its units there (LSP 3.17,
-- "Position")
abbrev pub position_of : (ℕ → ℕ) → List ℕ → ℕ → Position
position_of width t o = record { line = line_at t (lowered t o); character = units_at width t (lowered t o) }

-- the position of so many bytes in line l, which has this text. Bytes past the line's end mean its end, and bytes inside a
-- character mean its start
abbrev pub position_in : (ℕ → ℕ) → ℕ → List ℕ → ℕ → Position
position_in width l text bytes =
    record { line = l; character = sum_by width (take (fitting len_utf8 text bytes) text) }

-- the empty place at an offset, lowered as for `position_of`: its line, and the bytes of UTF-8 before it there
abbrev pub place_at : List ℕ → ℕ → Place
place_at t o = record {
  line = line_at t (lowered t o);
  start = units_at len_utf8 t (lowered t o);
  end = units_at len_utf8 t (lowered t o);
}

-- the offset of a place's start, which counts bytes of UTF-8 within its line
abbrev pub place_start : List ℕ → Place → ℕ
place_start t p = offset_of len_utf8 t p.line p.start

-- the offset of a place's end, which counts bytes of UTF-8 within its line
abbrev pub place_end : List ℕ → Place → ℕ
place_end t p = offset_of len_utf8 t p.line p.end

-- the positions of a place's two ends, which count bytes of UTF-8 within their line
abbrev pub place_range : (ℕ → ℕ) → List ℕ → Place → Range
place_range width t p = record { start = position_of width t (place_start t p); end = position_of width t (place_end t p) }

-- a text, and what the positions in it count
pub record Measured : Type 0 where
  pub text : List ℕ
  pub encoding : Encoding
