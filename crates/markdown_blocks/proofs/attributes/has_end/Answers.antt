use Rattle.std.proofs.Common.{◌∙◌, sym}
use Rattle.markdown_blocks.proofs.AttributeLaws.{end_on}
use Rattle.markdown_blocks.proofs.attributes.has_end.Goals as goal

pub loop-at-preserved : goal.loop-at-preserved
loop-at-preserved c = c.loop-at.invariant ∙ end_on c.args.text.now c.loop-at.at c.loop-at-test.true (sym c.begins.ensures ∙ c.if-begins.false)
