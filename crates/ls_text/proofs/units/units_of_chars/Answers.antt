use Rattle.std.proofs.Common.{◌≡◌, ℕ, ◌+◌, ◌≤◌, length, take, sym, ap, ◌∙◌, arith}
use Rattle.std.specs.Prelude.{sum_by}
use Rattle.std.proofs.lemmas.Iterator.{YieldsList-from_chars}
use Rattle.std.proofs.lemmas.List.{length_push, take_all}
use Rattle.std.proofs.lemmas.Iterator.Consumers.{YieldsList-turn, YieldsList-end}
use Rattle.std.specs.Str.{chars}
use Rattle.ls_text.specs.Lines.{units}
use Rattle.ls_text.proofs.UnitLaws.{units_more, units_le, bytes_fit}
use Rattle.ls_text.proofs.units.units_of_chars.Goals as goal

pub overflow_add-total : goal.overflow_add-total
overflow_add-total c =
    let t = YieldsList-turn (YieldsList-from_chars c.args.text.now c.utf8.text cc) c.loop-c.yielded _ c.loop-c.yielded_by _ _ c.in-Some.c c.in-Some.is c.next.ensures.steps in
    omega (arith, units_more (units c.args.encoding) _ _ _ t, units_le c.args.encoding (take (length c.loop-c.yielded + 1) (chars c.args.text.now)), bytes_fit c.args.text.now c.utf8.text (length c.loop-c.yielded + 1), c.loop-c.invariant.total_is, c.width-total.ensures, c.requires)

pub loop-c-preserved : goal.loop-c-preserved
loop-c-preserved c =
    let t = YieldsList-turn (YieldsList-from_chars c.args.text.now c.utf8.text cc) c.loop-c.yielded _ c.loop-c.yielded_by _ _ c.in-Some.c c.in-Some.is c.next.ensures.steps in
    record {
      counted = omega (arith, c.loop-c.invariant.counted, length_push c.loop-c.yielded c.in-Some.c);
      total_is = omega (arith, c.loop-c.invariant.total_is, c.width-total.ensures, units_more (units c.args.encoding) _ _ _ t, ap (λ k. sum_by (units c.args.encoding) (take k (chars c.args.text.now))) (length_push c.loop-c.yielded c.in-Some.c));
    }

pub returns-then-left-eq0 : goal.returns-then-left-eq0
returns-then-left-eq0 c = c.loop-c.invariant.total_is ∙ ap (λ k. sum_by (units c.args.encoding) (take k (chars c.args.text.now))) (same _ _ _ c.loop-c.invariant.counted c.if-left-eq0.true)
  where
    same : (y left n : ℕ) → y + left ≡ n → left ≡ 0 → y ≡ n
    same y left n e z = omega (arith, e, z)

pub returns : goal.returns
returns c =
    let t = YieldsList-end (YieldsList-from_chars c.args.text.now c.utf8.text cc) c.loop-c.yielded _ c.loop-c.yielded_by _ _ c.in-None.is c.next.ensures.steps in
    let all : length (chars c.args.text.now) ≤ length c.loop-c.yielded = omega (arith, t.1) in
    let more : length (chars c.args.text.now) ≤ c.args.count = omega (arith, all, c.loop-c.invariant.counted) in
    c.loop-c.invariant.total_is ∙ ap (sum_by (units c.args.encoding)) (take_all (length c.loop-c.yielded) (chars c.args.text.now) all ∙ sym (take_all c.args.count (chars c.args.text.now) more))
