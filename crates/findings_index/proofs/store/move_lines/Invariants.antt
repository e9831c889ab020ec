use Rattle.std.proofs.Common.{◌≡◌, ◌++◌, map, take, drop}
use Rattle.findings_index.specs.KeptBlocks.{moved_block}
use Rattle.findings_index.proofs.store.move_lines.Given as goal

-- the blocks so far are moved
abbrev pub invariant-loop-block : goal.invariant-loop-block
invariant-loop-block l = l.blocks ≡ map (moved_block l.old l.new) (take l.block-index l.initial.blocks) ++ drop l.block-index l.initial.blocks
