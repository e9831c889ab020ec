use Rattle.std.proofs.Common.{rules, arith}
use Rattle.std.proofs.lemmas.List.Edits.{map_over_more}
use Rattle.findings_index.specs.KeptBlocks.{moved_block}
use Rattle.findings_index.proofs.store.move_lines.Goals as goal

pub loop-block-preserved : goal.loop-block-preserved
loop-block-preserved c =
    map_over_more (moved_block c.args.old c.args.new) c.args.blocks.now c.loop-block.blocks c.loop-block.block-index _ (omega (arith, c.loop-block-test.true)) c.loop-block.invariant (search rules)
