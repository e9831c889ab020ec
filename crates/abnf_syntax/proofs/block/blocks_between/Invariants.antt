use Rattle.std.proofs.Common.{◌≡◌, ℕ, ◌-◌, ◌<◌, ◌≤◌, true, List, ◌++◌, length, map}
use Rattle.std.specs.Prelude.{All}
use Rattle.abnf_syntax.specs.declared.block.Block.{Block}
use Rattle.abnf_syntax.specs.Blocks.{begins_at, AreBlocksUpTo}
use Rattle.abnf_syntax.specs.Bounds.{bounds}
use Rattle.abnf_syntax.specs.Items.{AreItems}
use Rattle.abnf_syntax.proofs.block.blocks_between.Given as goal

-- The blocks from the next one on complete those found.
abbrev pub invariant-blocks-2 : goal.invariant-blocks-2
invariant-blocks-2 l = record {
  within : l.first ≤ l.to;
  begins : l.first < l.to → begins_at l.sheet l.first ≡ true;
  all : (bs : List (ℕ × ℕ)) → AreBlocksUpTo l.sheet l.first l.to bs → AreBlocksUpTo l.sheet l.from l.to (map bounds l.found.items ++ bs);
  items : All (λ (b : Block). AreItems l.sheet b.first b.end b.items) l.found.items;
  some : All (λ (b : Block). 0 < length b.items) l.found.items;
}

abbrev pub decreases-blocks-2 : goal.decreases-blocks-2
decreases-blocks-2 l = l.to - l.first
