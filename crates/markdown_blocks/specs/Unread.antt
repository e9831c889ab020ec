-- What may have to be said of the fenced blocks of a draft in Markdown: which of those of ABNF have no text, and which of the others nothing
-- marks, so that they may be ABNF too.
use Rattle.std.specs.Prelude.{ℕ, ◌+◌, Bool, true, false, not, ◌&&◌, ◌||◌, ◌==◌, List, [], ◌∷◌, ◌++◌, drop, flat_map, length, slice_index, if◌then◌else◌}
use Rattle.std.specs.List.{list_all}
use Rattle.origins.specs.Origins.{Sourced, SourcedBlock, aligned, characters, is_blank_char, is_break}
use Rattle.origins.specs.declared.unread.Aside.{Aside}
use Rattle.origins.specs.declared.unread.Lack.TheVariants.{BareFence, Empty}
use Rattle.markdown_blocks.specs.declared.beside.Beside.{Beside}
use Rattle.markdown_blocks.specs.declared.fence.Fence.{Fence}
use Rattle.markdown_blocks.specs.declared.reading.Reading.{Reading}
use Rattle.markdown_blocks.specs.declared.reading.Reading.TheVariants.{Text, BehindBlock, Block}
use Rattle.markdown_blocks.specs.Fences.{Line, behind_line, closes_fence, fence_content, first_says, margin, marks, placed_lines_from, with_word, without_blanks, without_end}

-- ---- what stands beside a block

-- a line begins as an attribute list does, with `{` behind blanks, whatever it says
abbrev pub begins_list : List ℕ → Bool
begins_list line = slice_index (without_blanks line) 0 == 123

-- the first of these lines does
abbrev pub first_lists : List Line → Bool
first_lists [] = false
first_lists (l ∷ ls) = begins_list (without_end l.1)

-- behind the margin and the marks of a line only blanks stand: where it opens a fence, that has no info string (CommonMark 0.31, section 4.5)
abbrev pub has_no_info : List ℕ → Bool
has_no_info line =
    let rest = drop (margin true line) line in
    list_all is_blank_char (drop (marks (slice_index rest 0) rest) rest)

-- no attribute list stands in the line before
abbrev pub no_list : Beside
no_list = record { is_bare = true; at = 0 }

-- What is known of the block that a line opens, by what was known before it: it is bare if it has no info string and no list stands before
-- it, and begins behind the margin. Of another line it is known whether it is a list.
abbrev pub beside_behind : Reading → Beside → ℕ → List ℕ → Beside
beside_behind (Block fence) beside at line = record { is_bare = beside.is_bare && has_no_info line; at = at + margin true line }
beside_behind reading beside at line = record { is_bare = not (begins_list line); at = 0 }

-- a block isn't bare if this says that a list stands behind it
abbrev pub with_list : Bool → Beside → Beside
with_list stands beside = record { is_bare = beside.is_bare && not stands; at = beside.at }

-- ---- blocks

-- a fenced block: whether it is ABNF, whether nothing says what it is, where its fence begins, and what stands in it
pub record Fenced : Type 0 where
  pub is_abnf : Bool
  pub is_bare : Bool
  pub at : ℕ
  pub block : SourcedBlock

-- the block that ends at an offset
abbrev pub block_ended : Fence → Beside → List Sourced → ℕ → Fenced
block_ended fence beside content end = record { is_abnf = fence.is_abnf; is_bare = beside.is_bare; at = beside.at; block = record { content = content; end = end } }

-- All blocks of these lines, as `fenced_blocks` of `Rattle.markdown_blocks.specs.Fences` has those of ABNF, by what is read before the lines
-- and what is known beside, and the content so far of a block that is open.
unfoldable pub all_blocks : ℕ → Reading → Beside → List Sourced → List Line → List Fenced
all_blocks end (Block fence) beside content [] = block_ended fence beside content end ∷ []
all_blocks end reading beside content [] = []
all_blocks end (Block fence) beside content (l ∷ ls) =
    if closes_fence fence (without_end l.1)
    then block_ended (with_word (first_says ls) fence) (with_list (first_lists ls) beside) content l.0 ∷ all_blocks end BehindBlock no_list [] ls
    else all_blocks end (Block fence) beside (content ++ fence_content fence l) ls
all_blocks end reading beside content (l ∷ ls) =
    let next = behind_line reading (without_end l.1) in
    all_blocks end next (beside_behind next beside l.0 (without_end l.1)) [] ls

-- all fenced blocks of a draft; one that isn't closed ends where the text ends
abbrev pub draft_blocks : List ℕ → List Fenced
draft_blocks draft = all_blocks (length draft) Text no_list [] (placed_lines_from 0 draft)

-- ---- what may have to be said of them

-- white space: a blank, or a character of a line end
abbrev pub is_white : ℕ → Bool
is_white c = is_blank_char c || is_break c

-- a block in which only white space stands, where it ends
abbrev pub empty_block : SourcedBlock → List Aside
empty_block block = if list_all is_white (characters block.content) then record { unread = record { at = block.end; lack = Empty }; text = [] } ∷ [] else []

-- a block that nothing marks, where its fence begins, with its text as a grammar has it
abbrev pub bare_block : ℕ → SourcedBlock → Aside
bare_block at block = record { unread = record { at = at; lack = BareFence }; text = aligned block }

-- what may have to be said of a block
abbrev pub block_asides : Fenced → List Aside
block_asides b = if b.is_abnf then empty_block b.block else (if b.is_bare then bare_block b.at b.block ∷ [] else [])

-- What may have to be said of the blocks of a draft in Markdown, in its order. A block of ABNF that is empty can't be read: it stands where
-- its closing fence's line begins, or where the text ends. Of any other block that has no info string and no attribute list beside it, the
-- text decides: it stands where its fence begins.
abbrev pub unread_blocks : List ℕ → List Aside
unread_blocks draft = flat_map block_asides (draft_blocks draft)
