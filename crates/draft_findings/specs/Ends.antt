-- Where the blocks of a draft end in the text of its grammar.
use Rattle.std.specs.Prelude.{ℕ, ◌+◌, Bool, true, false, not, ◌&&◌, ◌||◌, ◌==◌, List, [], ◌∷◌, slice_get, if◌then◌else◌}
use Rattle.std.specs.Option.{option_map_or}
use Rattle.ls_text.specs.Lines.{ends_line}
use Rattle.origins.specs.Origins.{Sourced, characters, is_break}

-- a character of a draft for which a line end stands in the grammar: LF, CR, or the `&` of a reference to one
abbrev pub gives_break : ℕ → Bool
gives_break c = is_break c || c == 38

-- a line end stands for what the draft has at this offset
abbrev pub is_of_draft : List ℕ → ℕ → Bool
is_of_draft draft origin = option_map_or gives_break (slice_get draft origin) false

-- nothing comes behind
abbrev pub is_end : List Sourced → Bool
is_end [] = true
is_end (c ∷ cs) = false

-- A character ends a block, before these: LF that stands for nothing of the draft. The last one does, wherever its block was cut off.
abbrev pub ends_block : List ℕ → Sourced → List Sourced → Bool
ends_block draft c behind = c.0 == 10 && (is_end behind || not (is_of_draft draft c.1))

-- the line behind a character in this line, before these
abbrev pub line_behind : ℕ → ℕ → List ℕ → ℕ
line_behind line c behind = if ends_line c behind then line + 1 else line

-- the first line behind each block, of characters that begin in this line
abbrev pub ends_from : List ℕ → ℕ → List Sourced → List ℕ
ends_from draft line [] = []
ends_from draft line (c ∷ cs) =
    let next = line_behind line c.0 (characters cs) in
    if ends_block draft c cs then next ∷ ends_from draft next cs else ends_from draft next cs

-- the lines of a grammar's text at which the blocks of its draft end: of each block the first line behind it, counted from 0
abbrev pub block_ends : List ℕ → List Sourced → List ℕ
block_ends draft grammar = ends_from draft 0 grammar
