use Rattle.std.proofs.Common.{◌∙◌, sym, subst, arith}
use Rattle.abnf_token.specs.Marks.{AreMarks}
use Rattle.abnf_syntax.proofs.EndLaws.{front_full, front_more}
use Rattle.abnf_syntax.proofs.ends.front_of.Goals as goal

pub returns-then-is_full : goal.returns-then-is_full
returns-then-is_full c =
    front_full c.args.sheet.now c.args.first c.loop-at.at c.args.end c.loop-at.front c.loop-at.auto.at (omega (arith, c.loop-at-test.true)) (sym c.is_full.ensures ∙ c.if-is_full.true) c.loop-at.invariant

pub after_line-front-requires : goal.after_line-front-requires
after_line-front-requires c = subst (λ line. AreMarks line c.row.result.marks.now) (sym c.row.ensures.text) c.row.ensures.marks

pub loop-at-preserved : goal.loop-at-preserved
loop-at-preserved c =
    front_more c.args.sheet.now c.args.first c.loop-at.at c.args.end c.loop-at.front c.after_line-front.result c.row.result.text.now c.row.result.marks.now c.loop-at.auto.at c.row.ensures.text c.row.ensures.marks c.after_line-front.ensures c.loop-at.invariant
