use Rattle.std.proofs.Common.{◌∙◌, sym}
use Rattle.incremental_findings.proofs.AlikeLaws.{same_around}
use Rattle.incremental_findings.proofs.difference.Difference.say_the_same.Goals as goal
use Rattle.incremental_findings.proofs.difference.Difference.say_the_same.Goals.{then-begin_alike, else-begin_alike}

pub returns-then-end_alike : goal.returns-then-end_alike
returns-then-end_alike c = λ t.
    let here = c.among-first.result in
    let there = c.among-first_there.result in
    elim c.if-begin_alike.branch [
      | then-begin_alike w ↦
          same_around c.args.ours.now c.args.theirs.now c.requires.base c.requires.tokens c.args.self.now c.requires.part c.args.here.from here.0 here.1 c.args.here.to c.args.there.from there.0 there.1
          c.args.there.to c.among-first.ensures.order.0 c.among-first.ensures.order.2 c.among-first.ensures.front c.among-first.ensures.back (c.begin_alike.ensures w.if-begin_alike.true)
          (w.end_alike.ensures (sym w.value-is ∙ c.if-end_alike.true)) (c.say_the_same.ensures t)
      | else-begin_alike w ↦ absurd (cc)
    ]
