use Rattle.std.proofs.Common.{arith}
use Rattle.findings_index.specs.own.Ways.{is_of_core}
use Rattle.findings_index.proofs.CoreMarks.{cores_are, one_mark_more}
use Rattle.findings_index.proofs.settling.core_marks.Goals as goal

pub loop-number-preserved : goal.loop-number-preserved
loop-number-preserved c =
    one_mark_more (is_of_core c.args.names.now c.args.defined.now) c.loop-number.number c.loop-number.marks.items c.push.new.self.items c.is_of_core.result
    c.loop-number.invariant c.is_of_core.ensures c.in_ok-push.ensures.items

pub returns : goal.returns
returns c =
    cores_are c.args.names.now c.args.defined.now c.loop-number.number c.loop-number.marks.items c.loop-number.invariant
    (omega (arith, c.loop-number-test.false, c.loop-number.auto.number-end, c.len-number-end.ensures))
