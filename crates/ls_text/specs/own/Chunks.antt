-- Lines in chunks, as a list of lines holds them. No public contract cites this.
use Rattle.std.specs.Prelude.{◌≡◌, ℕ, ◌<◌, ◌≤◌, ◌^◌, List, length, take, slice_index, slice_index_or}
use Rattle.std.specs.Arc.{arc_value}
use Rattle.std.specs.declared.sync.Arc.{Arc}
use Rattle.std.specs.List.{flat_map}
use Rattle.std.specs.Str.{encode_utf8_all}
use Rattle.ls_text.specs.Lines.{max_bytes}
use Rattle.ls_text.specs.Cut.{Row, text_of, start_of}
use Rattle.ls_text.specs.declared.chunk.Chunk.{Chunk}

-- the lines of a chunk behind a pointer
abbrev pub lines_behind : {Z : Type 0} → Arc Chunk Z → List Row
lines_behind c = (arc_value c).lines

-- the characters of lines with their line ends
abbrev pub char_length : List Row → ℕ
char_length ls = length (text_of ls)

-- the bytes of UTF-8 of lines with their line ends
abbrev pub byte_length : List Row → ℕ
byte_length ls = length (encode_utf8_all (text_of ls))

-- for each piece, what the pieces before it measure together, and what all of them do
pub record AreSums {X : Type 0} (value : X → List Row) (measure : List Row → ℕ) (pieces : List X) (sums : List ℕ) (total : ℕ) : Type 0 where
  pub count : length sums ≡ length pieces
  pub sums_are : (k : ℕ) → k < length pieces → slice_index sums k ≡ measure (flat_map value (take k pieces))
  pub total_is : total ≡ measure (flat_map value pieces)

-- what a list of lines keeps of its chunks: the lines and the characters before each, and how many lines, characters and bytes
-- all have
pub record IsSpine {X : Type 0} (value : X → List Row) (pieces : List X) (first_lines starts : List ℕ) (count chars bytes : ℕ) : Type 0 where
  pub line_sums : AreSums value length pieces first_lines count
  pub char_sums : AreSums value char_length pieces starts chars
  pub bytes_are : bytes ≡ byte_length (flat_map value pieces)
  pub small : bytes ≤ max_bytes
  pub fits : count < 2 ^ 64

-- this is line m, which starts at this offset
pub record IsLineAt (ls : List Row) (m : ℕ) (line : Row) (start : ℕ) : Type 0 where
  pub in_range : m < length ls
  pub line_is : line ≡ slice_index_or ls m line
  pub start_is : start ≡ start_of ls m
