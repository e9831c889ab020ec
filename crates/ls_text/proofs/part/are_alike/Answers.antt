use Rattle.std.proofs.Common.{refl, arith, below_more}
use Rattle.ls_text.proofs.AlikeLaws.{alike_here}
use Rattle.ls_text.proofs.part.are_alike.Goals as goal

pub loop-at-preserved : goal.loop-at-preserved
loop-at-preserved c =
    below_more _ _ c.loop-at.invariant (alike_here c.args.ours.now c.args.theirs.now c.loop-at.at c.args.place c.args.there _ _ (omega arith) (omega arith) (c.if-not-is_alike.ensures refl))

pub returns : goal.returns
returns c = λ t i lt. c.loop-at.invariant i (omega (arith, lt, c.loop-at-test.false))
