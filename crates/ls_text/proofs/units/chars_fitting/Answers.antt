use Rattle.std.proofs.Common.{◌+◌, arith}
use Rattle.std.proofs.lemmas.Iterator.{YieldsList-from_chars}
use Rattle.std.proofs.lemmas.List.{length_push}
use Rattle.std.proofs.lemmas.Iterator.Consumers.{YieldsList-turn, YieldsList-end}
use Rattle.std.specs.Str.{chars}
use Rattle.ls_text.specs.Lines.{units}
use Rattle.ls_text.proofs.UnitLaws.{moved, turn_stops, turn_goes, fitting_none, bytes_more, bytes_fit}
use Rattle.ls_text.proofs.units.chars_fitting.Goals as goal

pub returns-then-width-left-clause-count : goal.returns-then-width-left-clause-count
returns-then-width-left-clause-count c =
    let t = YieldsList-turn (YieldsList-from_chars c.args.text.now c.utf8.text cc) c.loop-c.yielded _ c.loop-c.yielded_by _ _ c.in-Some.c c.in-Some.is c.next.ensures.steps in
    turn_stops (units c.args.encoding) (chars c.args.text.now) _ _ _ _ _ (moved _ _ _ _ c.loop-c.invariant.yielded t) c.width-width.ensures c.loop-c.invariant.so_far c.if-width-left.true

pub returns-then-width-left-clause-bytes : goal.returns-then-width-left-clause-bytes
returns-then-width-left-clause-bytes c = c.loop-c.invariant.bytes

pub overflow_add-bytes : goal.overflow_add-bytes
overflow_add-bytes c =
    let t = YieldsList-turn (YieldsList-from_chars c.args.text.now c.utf8.text cc) c.loop-c.yielded _ c.loop-c.yielded_by _ _ c.in-Some.c c.in-Some.is c.next.ensures.steps in
    omega (arith, bytes_more _ _ _ (moved _ _ _ _ c.loop-c.invariant.yielded t), bytes_fit c.args.text.now c.utf8.text (c.loop-c.count + 1), c.loop-c.invariant.bytes)

pub loop-c-preserved : goal.loop-c-preserved
loop-c-preserved c =
    let t = YieldsList-turn (YieldsList-from_chars c.args.text.now c.utf8.text cc) c.loop-c.yielded _ c.loop-c.yielded_by _ _ c.in-Some.c c.in-Some.is c.next.ensures.steps in
    record {
      yielded = omega (arith, c.loop-c.invariant.yielded, length_push c.loop-c.yielded c.in-Some.c);
      so_far = turn_goes (units c.args.encoding) (chars c.args.text.now) _ _ _ _ _ (moved _ _ _ _ c.loop-c.invariant.yielded t) c.width-width.ensures c.loop-c.invariant.so_far c.if-width-left.false;
      bytes = omega (arith, bytes_more _ _ _ (moved _ _ _ _ c.loop-c.invariant.yielded t), c.loop-c.invariant.bytes);
    }

pub returns-clause-count : goal.returns-clause-count
returns-clause-count c =
    let t = YieldsList-end (YieldsList-from_chars c.args.text.now c.utf8.text cc) c.loop-c.yielded _ c.loop-c.yielded_by _ _ c.in-None.is c.next.ensures.steps in
    let e = fitting_none (units c.args.encoding) c.loop-c.left (chars c.args.text.now) c.loop-c.count (omega (arith, t.1, c.loop-c.invariant.yielded)) in
    omega (arith, e, c.loop-c.invariant.so_far)
