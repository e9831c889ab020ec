use Rattle.std.proofs.Common.{◌+◌, ◌-◌, arith}
use Rattle.incremental_findings.proofs.PartLaws.{back_from}
use Rattle.incremental_findings.proofs.difference.to_seams.Goals as goal

pub returns-then-are_seams-2-clause-part : goal.returns-then-are_seams-2-clause-part
returns-then-are_seams-2-clause-part c =
    let part = c.requires.part in
    let old = c.start_behind-old.result in
    let new = (old - c.args.part.old) + c.args.part.new in
    record {
      front = part.front;
      back =
          back_from c.args.ours.now c.args.theirs.now c.args.part.old c.args.part.new old new c.start_behind-old.ensures.0
          (omega (arith, c.start_behind-old.ensures.1, c.count-count.ensures)) (omega arith) part.back;
      order = (omega (arith, c.start_behind-old.ensures.0, part.order.0), omega (arith, part.order.1));
    }
