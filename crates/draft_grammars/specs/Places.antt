-- Offsets, positions and ranges of a draft and of its grammar. Offsets count characters, and so do positions in the grammar; those in the
-- draft count the units of its encoding.
use Rattle.std.specs.Prelude.{ℕ, suc, pred, min, Bool, ◌+◌, ◌-◌, ◌==◌, nat_lt, Option, None, option_map, unwrap_or, List, [], ◌∷◌, drop, length, position, slice_get, take, if◌then◌else◌}
use Rattle.std.specs.Option.{option_map_or, option_or}
use Rattle.std.specs.List.{prefix_len}
use Rattle.std.specs.Str.{chars, encode_utf8_all}
use Rattle.ls_text.specs.Edits.{position_offset}
use Rattle.ls_text.specs.Lines.{lines, units}
use Rattle.ls_text.specs.Positions.{place_at, position_of}
use Rattle.ls_text.specs.declared.position.Encoding.{Encoding}
use Rattle.ls_text.specs.declared.position.Encoding.TheVariants.{Utf32}
use Rattle.ls_text.specs.declared.position.Position.{Position}
use Rattle.ls_text.specs.declared.position.Range.{Range}
use Rattle.origins.specs.Origins.{Sourced, characters, is_blank_char}
use Rattle.xml_blocks.specs.Faults.{fault_offset}
use Rattle.xml_blocks.specs.Xml.{reference}
use Rattle.xml_blocks.specs.declared.fault.XmlFault.{XmlFault}

-- a draft, and what is read of it
pub record Mapped : Type 0 where
  pub draft : List ℕ
  pub encoding : Encoding
  pub grammar : List Sourced
  pub fault : Option XmlFault

-- ---- from the draft to its grammar

-- the line of a draft, without its line end
abbrev pub line_of_draft : List ℕ → ℕ → List ℕ
line_of_draft draft at = option_map_or (λ line. line) (slice_get (lines draft) at) []

-- how many blanks follow an offset in its line
abbrev pub blanks_behind : List ℕ → ℕ → ℕ
blanks_behind draft offset =
    let at = position_of (units Utf32) draft offset in
    prefix_len is_blank_char (drop at.character (line_of_draft draft at.line))

-- the place of the first character that begins at an offset of the draft
abbrev pub begun_at : List Sourced → ℕ → Option ℕ
begun_at grammar offset = position (λ c. c.1 == offset) grammar

-- the place behind one that ends there
abbrev pub place_ended_at : List Sourced → ℕ → Option ℕ
place_ended_at grammar offset = if offset == 0 then None else option_map (λ place. place + 1) (begun_at grammar (offset - 1))

-- The place in the grammar of an offset of the draft, if that stands in a block: at the character that begins there; in the margin of a
-- line, which isn't gathered, at the first one behind it; or else behind the one that ends there.
abbrev pub inward : Mapped → ℕ → Option ℕ
inward map offset =
    option_or (begun_at map.grammar offset)
    (option_or (begun_at map.grammar (offset + blanks_behind map.draft offset)) (place_ended_at map.grammar offset))

-- the position of that place
abbrev pub inward_at : Mapped → ℕ → Option Position
inward_at map offset = option_map (position_of (units Utf32) (characters map.grammar)) (inward map offset)

-- the position in the grammar of a position in the draft, if that stands in a block
abbrev pub inward_position : Mapped → Position → Option Position
inward_position map at = inward_at map (position_offset (units map.encoding) map.draft at)

-- the range with nothing in it at a position
abbrev pub empty_range : Position → Range
empty_range at = record { start = at; end = at }

-- the empty range at the start of a range, whichever of its ends comes first
abbrev pub inward_range : Mapped → Range → Option Range
inward_range map range =
    option_map empty_range (inward_at map (min (position_offset (units map.encoding) map.draft range.start) (position_offset (units map.encoding) map.draft range.end)))

-- ---- from the grammar to the draft

-- where the character at a place of the grammar begins in the draft; behind the last one it is the draft's end
abbrev pub outward : Mapped → ℕ → ℕ
outward map place = option_map_or (λ c. c.1) (slice_get map.grammar place) (length map.draft)

-- the bytes of UTF-8 that an offset's line has behind it
abbrev pub bytes_behind : List ℕ → ℕ → List ℕ
bytes_behind draft offset =
    let at = place_at draft offset in
    drop at.start (encode_utf8_all (line_of_draft draft at.line))

-- how many characters the reference has that such bytes begin with, its `&` (38) among them
abbrev pub reference_at : List ℕ → Option ℕ
reference_at [] = None
reference_at (c ∷ rest) = if c == 38 then option_map (λ r. suc r.1) (reference (chars rest)) else None

-- What comes next in the grammar stands right behind this place in the draft, too. So it is behind any `&` that is no reference: in a
-- CDATA section, and in Markdown.
abbrev pub place_goes_on : Mapped → ℕ → Bool
place_goes_on map place = outward map (suc place) == suc (outward map place)

-- how many characters of the draft stand for the one at a place of the grammar: those of a reference, or one
abbrev pub width : Mapped → ℕ → ℕ
width map place = if place_goes_on map place then 1 else unwrap_or (reference_at (bytes_behind map.draft (outward map place))) 1

-- Where in the draft ends what goes from one place of the grammar to another: behind what stands for its last character. What is empty
-- ends where it begins.
abbrev pub outward_end : Mapped → ℕ → ℕ → ℕ
outward_end map start end =
    if nat_lt start end then min (outward map (pred end) + width map (pred end)) (length map.draft) else outward map start

-- the place of a position in the grammar
abbrev pub grammar_place : Mapped → Position → ℕ
grammar_place map at = position_offset (units Utf32) (characters map.grammar) at

-- the position in the draft of an offset
abbrev pub drafted : Mapped → ℕ → Position
drafted map offset = position_of (units map.encoding) map.draft offset

-- the position in the draft of a position in the grammar
abbrev pub outward_position : Mapped → Position → Position
outward_position map at = drafted map (outward map (grammar_place map at))

-- the range in the draft of a range in the grammar, from where its first character begins to behind its last
abbrev pub outward_range : Mapped → Range → Range
outward_range map range = record {
  start = drafted map (outward map (grammar_place map range.start));
  end = drafted map (outward_end map (grammar_place map range.start) (grammar_place map range.end));
}

-- the character of the draft at which its fault is, if it has one
abbrev pub fault_range : Mapped → Option Range
fault_range map = option_map (λ fault. record {
  start = drafted map (fault_offset fault);
  end = drafted map (min (suc (fault_offset fault)) (length map.draft));
}) map.fault

-- what stands before an offset of the draft in its line
abbrev pub margin_before : List ℕ → ℕ → List ℕ
margin_before draft offset =
    let at = position_of (units Utf32) draft offset in
    take at.character (line_of_draft draft at.line)
