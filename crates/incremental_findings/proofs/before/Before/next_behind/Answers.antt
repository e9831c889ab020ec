use Rattle.std.proofs.Common.{◌-◌, arith}
use Rattle.incremental_findings.proofs.BeforeLaws.{next_moved}
use Rattle.incremental_findings.proofs.before.Before.next_behind.Goals as goal

pub returns : goal.returns
returns c =
    let here = c.count-count.result in
    let there = c.count-others.result in
    let before = c.requires.before in
    next_moved c.args.self.now.sheet.now c.args.sheet.now before.base c.args.self.now.lines before.part (here - (there - c.args.from)) (here - (there - c.args.to)) c.next_here-next.result
    c.args.from c.args.to (there - (here - c.next_here-next.result))
    (omega (arith, c.count-count.ensures, c.count-others.ensures, before.part.back.count, before.part.back.within.0, c.requires.order.0, c.requires.within, c.requires.order.1))
    (omega (arith, c.count-count.ensures, c.count-others.ensures, before.part.back.count, before.part.back.within.0, c.requires.order.0, c.requires.within, c.requires.order.1))
    (omega (arith, c.count-count.ensures, c.count-others.ensures, before.part.back.count, before.part.back.within.0, c.requires.order.0, c.requires.within, c.requires.order.1))
    (omega (arith, c.count-count.ensures, c.count-others.ensures, before.part.back.count, before.part.back.within.0, c.requires.order.0, c.requires.within, c.requires.order.1, c.next_here-next.ensures.reached, c.next_here-next.ensures.within))
    c.next_here-next.ensures
