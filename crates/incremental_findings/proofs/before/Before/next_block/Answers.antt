use Rattle.std.proofs.Common.{ℕ, arith, subst}
use Rattle.abnf_syntax.specs.Blocks.{IsNextBlock}
use Rattle.incremental_findings.proofs.BeforeLaws.{next_before, next_early, next_further}
use Rattle.incremental_findings.proofs.before.Before.next_block.Goals as goal
use Rattle.incremental_findings.proofs.before.Before.next_block.Goals.{then-next-back-via-then-next-back, then-next-back-via-else-next-back+then-back-to}

pub returns-then-next-front : goal.returns-then-next-front
returns-then-next-front c =
    let others = c.args.sheet.now in
    let front = c.among-front.result.0 in
    let here : IsNextBlock others c.args.from front c.next_here-next.result =
    next_before c.args.self.now.sheet.now others c.requires.before.base c.args.self.now.lines c.requires.before.part c.args.from front c.next_here-next.result c.among-front.ensures.front
    c.next_here-next.ensures
    in
    next_early others c.args.from front c.args.to c.next_here-next.result (omega (arith, c.among-front.ensures.order.1, c.among-front.ensures.order.2)) here c.if-next-front.true

pub returns-then-next-back : goal.returns-then-next-back
returns-then-next-back c =
    let others = c.args.sheet.now in
    let front = c.among-front.result.0 in
    let back = c.among-front.result.1 in
    let none : IsNextBlock others c.args.from front c.next_here-next.result =
    next_before c.args.self.now.sheet.now others c.requires.before.base c.args.self.now.lines c.requires.before.part c.args.from front c.next_here-next.result c.among-front.ensures.front
    c.next_here-next.ensures
    in
    let both : IsNextBlock others c.args.from back c.next_block-next.result =
    next_further others c.args.from front back c.next_here-next.result c.next_block-next.result none c.if-next-front.false c.next_block-next.ensures
    in
    elim c.then-next-back.branch [
      | then-next-back-via-then-next-back w ↦
          next_early others c.args.from back c.args.to c.next_block-next.result c.among-front.ensures.order.2 both w.if-next-back.true
      | then-next-back-via-else-next-back+then-back-to w ↦
          subst (λ (n : ℕ). IsNextBlock others c.args.from n c.next_block-next.result) w.if-back-to.true both
    ]

pub returns : goal.returns
returns c =
    let others = c.args.sheet.now in
    let front = c.among-front.result.0 in
    let back = c.among-front.result.1 in
    let none : IsNextBlock others c.args.from front c.next_here-next.result =
    next_before c.args.self.now.sheet.now others c.requires.before.base c.args.self.now.lines c.requires.before.part c.args.from front c.next_here-next.result c.among-front.ensures.front
    c.next_here-next.ensures
    in
    next_further others c.args.from front c.args.to c.next_here-next.result c.next_behind.result none c.if-next-front.false
    (next_further others front back c.args.to c.next_block-next.result c.next_behind.result c.next_block-next.ensures c.if-next-back.false c.next_behind.ensures)
