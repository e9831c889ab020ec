use Rattle.std.proofs.Common.{[], arith, sym, subst}
use Rattle.abnf_token.specs.Classes.{Text}
use Rattle.abnf_token.specs.Marks.{AreMarks}
use Rattle.incremental_findings.proofs.WalkLaws.{row_first, no_bare_items, nothing_given}
use Rattle.incremental_findings.proofs.walk.say_the_same.Goals as goal

pub loop-at-init : goal.loop-at-init
loop-at-init c = record {
  walks = c.over-walk.ensures.walks;
  same = λ rest ours left. record { bare_items = rest; ours = ours; theirs = c.over-walk.ensures.leaves rest left };
}

pub follows_row-requires-clause-marks : goal.follows_row-requires-clause-marks
follows_row-requires-clause-marks c = subst (λ (line : Text). AreMarks line c.row-row.result.marks.now) (sym c.row-row.ensures.text) c.row-row.ensures.marks

pub loop-at-preserved : goal.loop-at-preserved
loop-at-preserved c = record {
  walks = c.follows_row.ensures.walks;
  same = λ rest ours left. c.loop-at.invariant.same _
      (row_first c.args.ours.now c.loop-at.at c.args.to c.row-row.result.text.now c.begins.result c.row-row.result.marks.now rest
      c.row-row.ensures.text c.begins.ensures c.row-row.ensures.marks ours)
      (c.follows_row.ensures.gives c.if-not-follows_row.false rest left);
}

pub returns : goal.returns
returns c = λ t. c.loop-at.invariant.same [] (no_bare_items _ _ _ (omega (arith, c.loop-at.auto.at-end c.requires.ours, c.loop-at-test.false)))
    (c.next.ensures.none (nothing_given c.next.result c.is_none.result c.is_none.ensures t))
