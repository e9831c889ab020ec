-- A section that has what a block says.
use Rattle.std.specs.Prelude.{◌≡◌}
use Rattle.abnf_names.specs.declared.section.Section.{Section}
use Rattle.abnf_names.specs.Said.{Block, BlockSays}
use Rattle.abnf_names.specs.Excerpts.{excerpt, excerpt_of}

-- The section has the block's items and its fault, and the block says what they say.
pub record IsBlockOf (section : Section) (block : Block) : Type 0 where
  pub says : BlockSays block.items block.said
  pub same : excerpt section ≡ excerpt_of block
