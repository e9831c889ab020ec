-- How the lines of a draft are read, one after another. No public contract cites this.
use Rattle.std.specs.Prelude.{ℕ, suc, Bool, List, [], ◌∷◌, ◌++◌, flat_map, take, if◌then◌else◌}
use Rattle.ls_text.specs.Lines.{ends_line}
use Rattle.origins.specs.Origins.{Sourced, SourcedBlock, gathered_grammar}
use Rattle.origins.specs.declared.unread.Aside.{Aside}
use Rattle.markdown_blocks.specs.Fences.{without_end}
use Rattle.markdown_blocks.specs.Unread.{Fenced, block_asides}

-- how many characters the first line has, with its line end
unfoldable pub line_len : List ℕ → ℕ
line_len [] = 0
line_len (c ∷ t) = if ends_line c t then 1 else suc (line_len t)

-- the first line, without its line end
abbrev pub first_line : List ℕ → List ℕ
first_line t = without_end (take (line_len t) t)

-- a block, if it is ABNF
abbrev pub if_abnf : Fenced → List SourcedBlock
if_abnf b = if b.is_abnf then b.block ∷ [] else []

-- the blocks of ABNF among these
abbrev pub abnf_of : List Fenced → List SourcedBlock
abnf_of bs = flat_map if_abnf bs

-- What is found in a draft: whether asides are asked for, and if not, the grammar of its blocks, else the asides.
abbrev pub Finds : Type 0
Finds = Bool × List Sourced × List Aside

-- what is found, and then these blocks
abbrev pub with_blocks : Finds → List Fenced → Finds
with_blocks found bs =
    (found.0, (if found.0 then found.1 else found.1 ++ gathered_grammar (abnf_of bs)), (if found.0 then found.2 ++ flat_map block_asides bs else found.2))
