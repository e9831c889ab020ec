use Rattle.std.proofs.Common.{◌+◌, length, drop, ap, sym, ◌∙◌, arith}
use Rattle.std.specs.Str.{chars}
use Rattle.std.proofs.lemmas.Iterator.{YieldsList-from_chars}
use Rattle.std.proofs.lemmas.Iterator.Consumers.{YieldsList-turn, YieldsList-end}
use Rattle.std.proofs.lemmas.List.{length_push, at_drop_all}
use Rattle.markdown_blocks.specs.own.Fronts.{first_behind}
use Rattle.markdown_blocks.proofs.FenceLaws.{left_at}
use Rattle.markdown_blocks.proofs.FrontLaws.{behind_found, behind_more}
use Rattle.markdown_blocks.proofs.front.first_behind.Goals as goal

pub loop-c-preserved : goal.loop-c-preserved
loop-c-preserved c =
    let t = YieldsList-turn (YieldsList-from_chars c.args.line.now c.utf8.line cc) c.loop-c.yielded _ c.loop-c.yielded_by _ _ c.in-Some.c c.in-Some.is c.next.ensures.steps in
    let quoted = c.args.quoted in
    let rest = drop (length c.loop-c.yielded + 1) (chars c.args.line.now) in
    ap (λ n. first_behind quoted (drop n (chars c.args.line.now))) (length_push c.loop-c.yielded c.in-Some.c)
    ∙ sym (behind_more quoted c.in-Some.c rest (sym c.is_margin.ensures ∙ c.if-not-is_margin.false))
    ∙ ap (first_behind quoted) (sym (left_at (chars c.args.line.now) (length c.loop-c.yielded) c.in-Some.c t.0 t.1))
    ∙ c.loop-c.invariant

pub returns-then-not-is_margin : goal.returns-then-not-is_margin
returns-then-not-is_margin c =
    let t = YieldsList-turn (YieldsList-from_chars c.args.line.now c.utf8.line cc) c.loop-c.yielded _ c.loop-c.yielded_by _ _ c.in-Some.c c.in-Some.is c.next.ensures.steps in
    let quoted = c.args.quoted in
    sym (behind_found quoted c.in-Some.c (drop (length c.loop-c.yielded + 1) (chars c.args.line.now)) (sym c.is_margin.ensures ∙ c.if-not-is_margin.true))
    ∙ ap (first_behind quoted) (sym (left_at (chars c.args.line.now) (length c.loop-c.yielded) c.in-Some.c t.0 t.1))
    ∙ c.loop-c.invariant

pub returns : goal.returns
returns c =
    let t = YieldsList-end (YieldsList-from_chars c.args.line.now c.utf8.line cc) c.loop-c.yielded _ c.loop-c.yielded_by _ _ c.in-None.is c.next.ensures.steps in
    sym (at_drop_all (first_behind c.args.quoted) (chars c.args.line.now) (length c.loop-c.yielded) (omega (arith, t.1))) ∙ c.loop-c.invariant
