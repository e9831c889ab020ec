-- A grammar to which rules of other grammars are joined: those whose names it doesn't define itself. RFC 5234 section 2.1 reads names in
-- any case of their letters, and section 3.3 has more than one block define a name.
use Rattle.std.specs.Prelude.{◌≡◌, ℕ, Bool, false, not, List, [], ◌∷◌, ◌++◌, All, Option, option_map, filter, flat_map, fold, map, slice_range}
use Rattle.std.specs.Option.{is_some, option_map_or}
use Rattle.ls_text.specs.Lines.{lines}
use Rattle.abnf_token.specs.Folded.{lowercase}
use Rattle.abnf_syntax.specs.declared.block.Block.{Block}
use Rattle.abnf_syntax.specs.Blocks.{AreBlocks, line_texts}
use Rattle.abnf_syntax.specs.Bounds.{bounds}
use Rattle.abnf_syntax.specs.Heads.{head_of}
use Rattle.abnf_syntax.specs.Items.{AreItems}
use Rattle.abnf_parts.specs.Names.{Name, rule_number, with_name}

-- These are the blocks of a text, all of them and in order.
pub record AreBlocksOf (text : List ℕ) (blocks : List Block) : Type 0 where
  pub all : AreBlocks (line_texts text) 0 (map bounds blocks)
  pub items : All (λ block. AreItems (line_texts text) block.first block.end block.items) blocks

-- the name that a block's head defines or adds to, with small letters, if it has a head (RFC 5234 section 2.1 has names read
-- in any case)
abbrev pub defined_name : Block → Option Name
defined_name block = option_map (λ head. lowercase head.name.text.now) (head_of block.items)

-- names, and behind them that of a block's head, unless it is there
abbrev pub with_head_name : List Name → Block → List Name
with_head_name names block = option_map_or (with_name names) (defined_name block) names

-- names, and behind them those of the heads of blocks, each once
abbrev pub with_heads : List Name → List Block → List Name
with_heads names blocks = fold with_head_name names blocks

-- The block has a head, whose name isn't among these.
abbrev pub is_new : List Name → Block → Bool
is_new names block = option_map_or (λ name. not (is_some (rule_number names name))) (defined_name block) false

-- a line, and LF behind it
abbrev pub with_break : List ℕ → List ℕ
with_break line = line ++ 10 ∷ []

-- the lines of a block, each with LF
abbrev pub block_text : List ℕ → Block → List ℕ
block_text text block = flat_map with_break (slice_range (lines text) block.first block.end)

-- the lines of the blocks that have new names, each with LF
abbrev pub new_text : List Name → List ℕ → List Block → List ℕ
new_text names text blocks = flat_map (block_text text) (filter (is_new names) blocks)

-- This follows a grammar whose heads have these names: of each other text, in order, the blocks with names that no grammar
-- before it has. All blocks of one text with such a name are among them, also those with `=/`; blocks without a head aren't.
abbrev pub Follows : List Name → List (List ℕ) → List ℕ → Type 0
Follows names [] behind = behind ≡ []
Follows names (other ∷ others) behind =
    (blocks : List Block) × (rest : List ℕ) × AreBlocksOf other blocks × Follows (with_heads names blocks) others rest
    × (behind ≡ new_text names other blocks ++ rest)

-- This is a grammar's text with the other texts' rules joined to it: the text itself, and behind it what follows. There is
-- one (`joined_texts_exist`), and only one (`joined_texts_are_unique`).
pub record IsJoined (told : List ℕ) (others : List (List ℕ)) (text : List ℕ) : Type 0 where
  pub blocks : List Block
  pub are_blocks : AreBlocksOf told blocks
  pub behind : List ℕ
  pub follows : Follows (with_heads [] blocks) others behind
  pub is : text ≡ told ++ behind
