use Rattle.std.proofs.Common.{sym, ◌∙◌}
use Rattle.incremental_findings.proofs.WalkLaws.{nothing_followed, followed_item, followed_gap, all_followed}
use Rattle.incremental_findings.proofs.walk.Walk.follows_row.Goals as goal
use Rattle.incremental_findings.proofs.walk.Walk.follows_row.Goals.{then-is_item+else-not-follows, else-is_item}

pub loop-mark-init : goal.loop-mark-init
loop-mark-init c = nothing_followed c.args.self.now c.args.row.now.text.now c.args.begins c.at_line-stand.result c.args.row.now.marks.now
    c.at_line-stand.ensures c.requires.walks

pub loop-mark-preserved : goal.loop-mark-preserved
loop-mark-preserved c =
    let line = c.args.row.now.text.now in
    let marks = c.args.row.now.marks.now in
    elim c.if-is_item.branch [
      | then-is_item+else-not-follows w ↦
          followed_item _ c.loop-mark.self w.follows.new.self c.if-is_item.self _ line c.loop-mark.stand _ c.if-is_item.stand marks c.loop-mark.mark-index
          _ _ c.loop-mark.invariant c.loop-mark-test.true (sym c.is_item.ensures ∙ w.if-is_item.true) w.item_at.ensures w.follows.ensures.walks (w.follows.ensures.gives w.if-not-follows.false)
          w.behind_item-stand.ensures w.self-is w.stand-is
      | else-is_item w ↦
          followed_gap _ c.loop-mark.self c.if-is_item.self _ line c.loop-mark.stand _ c.if-is_item.stand marks c.loop-mark.mark-index _
          c.loop-mark.invariant c.loop-mark-test.true (sym c.is_item.ensures ∙ w.if-is_item.false) w.behind_gap-stand.ensures w.self-is w.stand-is
    ]

pub returns-clause-gives : goal.returns-clause-gives
returns-clause-gives c = λ t. all_followed _ _ _ _ _ c.args.row.now.marks.now c.loop-mark.mark-index c.loop-mark.invariant c.loop-mark-test.false
