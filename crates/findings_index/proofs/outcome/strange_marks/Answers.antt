use Rattle.std.proofs.Common.{arith}
use Rattle.findings_index.specs.own.Flags.{is_strange_number}
use Rattle.findings_index.proofs.CoreMarks.{one_mark_more}
use Rattle.findings_index.proofs.Outcomes.{all_strange}
use Rattle.findings_index.proofs.outcome.strange_marks.Goals as goal

pub loop-number-preserved : goal.loop-number-preserved
loop-number-preserved c =
    one_mark_more (is_strange_number c.args.defined.now c.args.core.now) c.loop-number.number c.loop-number.marks.items c.push.new.self.items c.is_strange.result
    c.loop-number.invariant c.is_strange.ensures c.in_ok-push.ensures.items

pub returns : goal.returns
returns c =
    all_strange c.args.defined.now c.args.core.now c.loop-number.number c.loop-number.marks.items c.loop-number.invariant
    (omega (arith, c.loop-number-test.false, c.loop-number.auto.number-end))
