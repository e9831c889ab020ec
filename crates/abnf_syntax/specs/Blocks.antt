-- The blocks of a text, by the indents of its lines. RFC 5234 section 2.2 has the rules of a grammar left aligned, wherever the
-- first one begins, and the lines that continue a rule indented deeper.
use Rattle.std.specs.Prelude.{◌≡◌, ℕ, suc, ◌<◌, ◌≤◌, Bool, false, true, not, ◌&&◌, nat_le, nat_eq, List, [], ◌∷◌, map, length, slice_index_or, if◌then◌else◌}
use Rattle.std.specs.Str.{encode_utf8_all}
use Rattle.ls_text.specs.Lines.{lines}
use Rattle.abnf_token.specs.Classes.{Text, is_blank_byte}

-- the lines of a text without their line ends, each as its bytes of UTF-8
abbrev pub line_texts : List ℕ → List Text
line_texts text = map encode_utf8_all (lines text)

-- how many SP and HTAB a line begins with, which count alike
abbrev pub indent : Text → ℕ
indent [] = 0
indent (b ∷ bs) = if is_blank_byte b then suc (indent bs) else 0

-- whether a line has content: it isn't blank, with only SP and HTAB, and no comment line, whose first other character is `;`
abbrev pub is_content : Text → Bool
is_content [] = false
is_content (b ∷ bs) = if is_blank_byte b then is_content bs else not (nat_eq b 0x3B)

-- the indent of the first line with content, 0 where none has any
abbrev pub base_indent : List Text → ℕ
base_indent [] = 0
base_indent (l ∷ ls) = if is_content l then indent l else base_indent ls

-- No line from the first place up to the second has content.
abbrev pub HasNoContent : List Text → ℕ → ℕ → Type 0
HasNoContent ls from to = (at : ℕ) → from ≤ at → at < to → is_content (slice_index_or ls at []) ≡ false

-- This is the first line with content, and its indent. In a text without one it is how many lines there are, and 0.
pub record IsTop (ls : List Text) (line base : ℕ) : Type 0 where
  pub within : line ≤ length ls
  pub before : HasNoContent ls 0 line
  pub content : line < length ls → is_content (slice_index_or ls line []) ≡ true
  pub indent : base ≡ base_indent ls

-- a line with content that is indented no deeper than this begins a block (RFC 5234 section 2.2)
abbrev pub begins_block : ℕ → Text → Bool
begins_block base l = is_content l && nat_le (indent l) base

-- whether the line at a place begins a block; behind the last line none does
abbrev pub begins_at : List Text → ℕ → Bool
begins_at ls at = begins_block (base_indent ls) (slice_index_or ls at [])

-- Some line begins a block.
abbrev pub HasBlock : List Text → Type 0
HasBlock ls = (at : ℕ) × (begins_at ls at ≡ true)

-- No line from the first place up to the second begins a block.
abbrev pub NoneBegins : List Text → ℕ → ℕ → Type 0
NoneBegins ls from to = (at : ℕ) → from ≤ at → at < to → begins_at ls at ≡ false

-- the next line from a place on that begins a block, or the line `to` where none before it does
pub record IsNextBlock (ls : List Text) (from to next : ℕ) : Type 0 where
  pub reached : from ≤ next
  pub within : next ≤ to
  pub none : NoneBegins ls from next
  pub begins : next < to → begins_at ls next ≡ true

-- The lines of a block, the first one and the one behind the last: a line that begins it and all that follow, up to the next
-- that begins one, or to the end.
pub record IsBlock (ls : List Text) (first end : ℕ) : Type 0 where
  pub some : first < end
  pub within : end ≤ length ls
  pub begins : begins_at ls first ≡ true
  pub rest : NoneBegins ls (suc first) end
  pub ends : end < length ls → begins_at ls end ≡ true

-- These are the first lines and ends of all blocks from a line on, in order: no line before, between or behind them begins
-- one. Lines before the first block belong to none.
abbrev pub AreBlocks : List Text → ℕ → List (ℕ × ℕ) → Type 0
AreBlocks ls from [] = NoneBegins ls from (length ls)
AreBlocks ls from (b ∷ bs) = (from ≤ b.0) × NoneBegins ls from b.0 × IsBlock ls b.0 b.1 × AreBlocks ls b.1 bs

-- No block goes over this place: where a line before begins one, the line there begins another, or there is none.
pub record IsSeam (ls : List Text) (at : ℕ) : Type 0 where
  pub within : at ≤ length ls
  pub begins : (before : ℕ) → before < at → begins_at ls before ≡ true → at < length ls → begins_at ls at ≡ true

-- These are the first lines and ends of the blocks from a line up to a seam, in order.
abbrev pub AreBlocksUpTo : List Text → ℕ → ℕ → List (ℕ × ℕ) → Type 0
AreBlocksUpTo ls from to [] = NoneBegins ls from to
AreBlocksUpTo ls from to (b ∷ bs) = (from ≤ b.0) × NoneBegins ls from b.0 × IsBlock ls b.0 b.1 × (b.1 ≤ to) × AreBlocksUpTo ls b.1 to bs
