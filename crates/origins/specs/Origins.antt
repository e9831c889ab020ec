-- Texts that are made of pieces of another one, the draft, and where their characters come from.
use Rattle.std.specs.Prelude.{ℕ, suc, pred, Bool, ◌&&◌, ◌||◌, ◌==◌, nat_lt, Option, Some, None, List, [], ◌∷◌, ◌++◌, map, flat_map, if◌then◌else◌}

-- a character, and the offset at which it begins in the draft, in characters
abbrev pub Sourced : Type 0
Sourced = ℕ × ℕ

-- characters that stand in a row in the draft, the first of them at this offset
abbrev pub from : ℕ → List ℕ → List Sourced
from at [] = []
from at (c ∷ cs) = (c, at) ∷ from (suc at) cs

-- the characters alone
abbrev pub characters : List Sourced → List ℕ
characters cs = map (λ c. c.0) cs

-- a block of grammar in a draft: its characters, and the offset at which it ends
pub record SourcedBlock : Type 0 where
  pub content : List Sourced
  pub end : ℕ

-- SP or HTAB
abbrev pub is_blank_char : ℕ → Bool
is_blank_char c = c == 32 || c == 9

-- LF or CR
abbrev pub is_break : ℕ → Bool
is_break c = c == 10 || c == 13

-- how many blanks stand at the front of characters
abbrev pub blank_front : List Sourced → ℕ
blank_front [] = 0
blank_front (c ∷ cs) = if is_blank_char c.0 then suc (blank_front cs) else 0

-- How many blanks the first line with content begins with, 0 where none has content (RFC 5234 section 2.2). A line has
-- content, unless it has only blanks, or its first other character is the `;` of a comment. Of the line at hand so many
-- blanks have come and nothing else, or, with None, a comment has begun.
abbrev pub first_indent : Option ℕ → List ℕ → ℕ
first_indent front [] = 0
first_indent None (c ∷ cs) = first_indent (if is_break c then Some 0 else None) cs
first_indent (Some n) (c ∷ cs) =
    if is_break c then first_indent (Some 0) cs
    else (if is_blank_char c then first_indent (Some (suc n)) cs else (if c == 59 then first_indent None cs else n))

-- a block without so many blanks at the front of each line, of which so many may still go on the line at hand
abbrev pub left_aligned : ℕ → ℕ → List Sourced → List Sourced
left_aligned base left [] = []
left_aligned base left (c ∷ cs) =
    if is_blank_char c.0 && nat_lt 0 left then left_aligned base (pred left) cs
    else c ∷ left_aligned base (if is_break c.0 then base else 0) cs

-- the characters of a block, aligned by its first indent, and a line end, which has the place of the block's end
abbrev pub aligned : SourcedBlock → List Sourced
aligned block =
    let base = first_indent (Some 0) (characters block.content) in
    left_aligned base base block.content ++ (10, block.end) ∷ []

-- the grammar of blocks: one behind the other, each aligned by itself
abbrev pub gathered_grammar : List SourcedBlock → List Sourced
gathered_grammar blocks = flat_map aligned blocks
