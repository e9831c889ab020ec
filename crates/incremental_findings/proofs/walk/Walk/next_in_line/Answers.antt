use Rattle.std.proofs.Common.{sym, ◌∙◌}
use Rattle.incremental_findings.proofs.WalkLaws.{item_gives, gap_gives, none_gives}
use Rattle.incremental_findings.proofs.walk.Walk.next_in_line.Goals as goal

pub returns-then-is_item-clause-some : goal.returns-then-is_item-clause-some
returns-then-is_item-clause-some c = λ rest h.
    let w = c.loop-self.self in
    c.loop-self.invariant.leaves _ (item_gives _ _ _ w.row.text.now w.stand _ w.row.marks.now w.next _ _ rest c.loop-self-test.true
    (sym c.is_item.ensures ∙ c.if-is_item.true) c.item_at-item.ensures c.behind_item-self.ensures h)

pub loop-self-preserved : goal.loop-self-preserved
loop-self-preserved c =
    let w = c.loop-self.self in
    record {
      walks = record { marked = c.loop-self.invariant.walks.marked; order = c.loop-self.invariant.walks.order };
      leaves = λ rest h. c.loop-self.invariant.leaves rest
          (gap_gives _ _ _ w.row.text.now w.stand _ w.row.marks.now w.next _ rest c.loop-self-test.true (sym c.is_item.ensures ∙ c.if-is_item.false)
          c.behind_gap-self.ensures h);
      stays = record { at = c.loop-self.invariant.stays.at; end = c.loop-self.invariant.stays.end };
    }

pub returns-clause-none : goal.returns-clause-none
returns-clause-none c = λ e rest are.
    let w = c.loop-self.self in
    c.loop-self.invariant.leaves rest (none_gives _ _ _ w.row.text.now w.stand w.row.marks.now w.next rest c.loop-self-test.false are)
