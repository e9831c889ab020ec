use Rattle.std.proofs.Common.{◌∙◌, sym}
use Rattle.abnf_syntax.proofs.EndLaws.{last_here, not_here}
use Rattle.abnf_syntax.proofs.ends.last_in.Goals as goal

pub returns-then-is_item : goal.returns-then-is_item
returns-then-is_item c =
    last_here c.args.at c.args.row.text.now c.args.row.marks.now c.loop-index.index _ c.token_at.result c.loop-index-test.true c.loop-index.auto.index (sym c.is_item.ensures ∙ c.if-is_item.true) c.token_at.ensures.mark c.token_at.ensures.line c.token_at.ensures.text
    ∙ sym c.loop-index.invariant

pub loop-index-preserved : goal.loop-index-preserved
loop-index-preserved c =
    c.loop-index.invariant ∙ not_here c.args.at c.args.row.text.now c.args.row.marks.now c.loop-index.index _ c.loop-index-test.true c.loop-index.auto.index (sym c.is_item.ensures ∙ c.if-is_item.false)
