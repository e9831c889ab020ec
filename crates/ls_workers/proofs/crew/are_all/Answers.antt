use Rattle.std.proofs.Common.{rules, arith}
use Rattle.std.specs.Prelude.{◌==◌, count_by}
use Rattle.ls_workers.proofs.Numbers.{one_more}
use Rattle.ls_workers.proofs.crew.are_all.Goals as goal

pub returns-then-not-is_once : goal.returns-then-not-is_once
returns-then-not-is_once g c = (λ t. search rules, λ all. let once = c.is_once.ensures.1 (all.numbers c.loop-number.number c.loop-number-test.true) in search rules)

pub loop-number-preserved : goal.loop-number-preserved
loop-number-preserved g c = one_more (λ number. count_by (λ seat. seat.number == number) c.args.seats.now) c.loop-number.number c.loop-number.invariant (search rules)

pub returns : goal.returns
returns g c = (
  λ t. record {
    marks = search rules;
    count_is = omega arith;
    numbers = λ number less. c.loop-number.invariant number (omega arith);
  },
  λ all. search rules,
)
