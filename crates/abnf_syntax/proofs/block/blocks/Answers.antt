use Rattle.std.proofs.Common.{map}
use Rattle.std.proofs.lemmas.Result.{IfOk-weaker}
use Rattle.abnf_syntax.specs.Blocks.{line_texts, AreBlocks}
use Rattle.abnf_syntax.specs.Bounds.{bounds}
use Rattle.abnf_syntax.proofs.BlockLaws.{text_blocks}
use Rattle.abnf_syntax.proofs.block.blocks.Goals as goal

pub returns-clause-all : goal.returns-clause-all
returns-clause-all c =
    IfOk-weaker c.blocks_between.result _ (λ found. AreBlocks (line_texts c.args.snapshot.now) 0 (map bounds found.items))
    (λ found. text_blocks c.of-sheet.result (line_texts c.args.snapshot.now) c.count.result c.of-sheet.ensures.lines c.count.ensures (map bounds found.items))
    c.blocks_between.ensures.all
