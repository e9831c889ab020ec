use Rattle.std.proofs.Common.{◌∙◌, sym}
use Rattle.published_blocks.proofs.LineLaws.{footer_on}
use Rattle.published_blocks.proofs.line.is_footer.Goals as goal

pub loop-at-preserved : goal.loop-at-preserved
loop-at-preserved c = c.loop-at.invariant ∙ footer_on c.args.line.now c.loop-at.at c.loop-at-test.true (sym c.is_page_mark.ensures ∙ c.if-is_page_mark.false)
