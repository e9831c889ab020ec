use Rattle.std.proofs.Common.{◌∙◌, refl, sym, arith, below_more}
use Rattle.ls_text.proofs.SameLaws.{front_same, length_same, same_at, text_same, same_held, held_same}
use Rattle.ls_text.proofs.snapshot.same_lines.Goals as goal

pub returns-then-len : goal.returns-then-len
returns-then-len c = (
  λ f. cc,
  λ e. absurd (c.if-len.true (c.len.ensures ∙ length_same _ _ c.requires.a c.requires.b e ∙ sym c.len-2.ensures)),
)

pub loop-i-init : goal.loop-i-init
loop-i-init c = front_same _ c.args.a.now c.args.b.now c.same_front-i.ensures

pub loop-i-preserved : goal.loop-i-preserved
loop-i-preserved c =
    let same = c.if-not-same_line.ensures.0 refl in
    below_more _ _ c.loop-i.invariant (same_held c.args.a.now c.args.b.now c.loop-i.i _ _ _ _ c.line-ours.ensures c.line-theirs.ensures same)

pub returns-then-not-same_line : goal.returns-then-not-same_line
returns-then-not-same_line c = (
  λ f. cc,
  λ e. c.if-not-same_line.ensures.1 (held_same c.args.a.now c.args.b.now c.loop-i.i _ _ _ _ c.line-ours.ensures c.line-theirs.ensures (same_at _ _ c.requires.a c.requires.b e c.loop-i.i c.line-ours.ensures.in_range)),
)

pub returns : goal.returns
returns c = (
  λ t. text_same _ _ (omega (arith, c.if-len.false, c.len.ensures, c.len-2.ensures)) (λ i lt. c.loop-i.invariant i (omega (arith, lt, c.loop-i-test.false, c.len-i-end.ensures))),
  λ e. refl,
)
