use Rattle.std.proofs.Common.{◌+◌, ◌-◌, length, drop, ap, sym, ◌∙◌, arith}
use Rattle.std.specs.Prelude.{min}
use Rattle.std.specs.Str.{chars}
use Rattle.std.proofs.lemmas.Iterator.{YieldsList-from_chars}
use Rattle.std.proofs.lemmas.Iterator.Consumers.{YieldsList-turn, YieldsList-end}
use Rattle.std.proofs.lemmas.List.{length_push, at_drop_all}
use Rattle.markdown_blocks.specs.Fences.{margin}
use Rattle.markdown_blocks.proofs.FenceLaws.{left_at}
use Rattle.markdown_blocks.proofs.FrontLaws.{gone_all, gone_end, gone_on, margin_cut, margin_more}
use Rattle.markdown_blocks.proofs.front.margin_gone.Goals as goal
use Rattle.markdown_blocks.proofs.front.margin_gone.Goals.{then-gone-fence-via-then-gone-fence, then-gone-fence-via-else-gone-fence+then-not-is_margin}

pub returns-then-gone-fence : goal.returns-then-gone-fence
returns-then-gone-fence c =
    let t = YieldsList-turn (YieldsList-from_chars c.args.line.now c.utf8.line cc) c.loop-c.yielded _ c.loop-c.yielded_by _ _ c.in-Some.c c.in-Some.is c.next.ensures.steps in
    let quoted = c.args.fence.quoted in
    elim c.then-gone-fence.branch [
      | then-gone-fence-via-then-gone-fence w ↦ gone_all _ _ _ _ w.if-gone-fence.true c.loop-c.invariant.so_far
      | then-gone-fence-via-else-gone-fence+then-not-is_margin w ↦
          gone_end _ _ _ _ (ap (margin quoted) (left_at (chars c.args.line.now) (length c.loop-c.yielded) c.in-Some.c t.0 t.1) ∙ margin_cut quoted c.in-Some.c (drop (length c.loop-c.yielded + 1) (chars c.args.line.now)) (sym w.is_margin.ensures ∙ w.if-not-is_margin.true)) c.loop-c.invariant.so_far
    ]

pub loop-c-preserved : goal.loop-c-preserved
loop-c-preserved c =
    let t = YieldsList-turn (YieldsList-from_chars c.args.line.now c.utf8.line cc) c.loop-c.yielded _ c.loop-c.yielded_by _ _ c.in-Some.c c.in-Some.is c.next.ensures.steps in
    let quoted = c.args.fence.quoted in
    let rest = drop (length c.loop-c.yielded + 1) (chars c.args.line.now) in
    record {
      small = omega (arith, c.loop-c.invariant.small, c.if-gone-fence.false);
      so_far = ap (λ n. c.loop-c.gone + 1 + min (c.args.fence.indent - (c.loop-c.gone + 1)) (margin quoted (drop n (chars c.args.line.now)))) (length_push c.loop-c.yielded c.in-Some.c)
          ∙ gone_on c.loop-c.gone c.args.fence.indent (margin quoted (drop (length c.loop-c.yielded) (chars c.args.line.now))) (margin quoted rest) _
          (ap (margin quoted) (left_at (chars c.args.line.now) (length c.loop-c.yielded) c.in-Some.c t.0 t.1) ∙ margin_more quoted c.in-Some.c rest (sym c.is_margin.ensures ∙ c.if-not-is_margin.false))
          c.loop-c.invariant.small c.if-gone-fence.false c.loop-c.invariant.so_far;
    }

pub returns : goal.returns
returns c =
    let t = YieldsList-end (YieldsList-from_chars c.args.line.now c.utf8.line cc) c.loop-c.yielded _ c.loop-c.yielded_by _ _ c.in-None.is c.next.ensures.steps in
    gone_end _ _ _ _ (at_drop_all (margin c.args.fence.quoted) (chars c.args.line.now) (length c.loop-c.yielded) (omega (arith, t.1))) c.loop-c.invariant.so_far
