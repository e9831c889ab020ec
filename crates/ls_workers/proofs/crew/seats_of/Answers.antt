use Rattle.std.proofs.Common.{◌+◌, refl, sym, subst, ◌∙◌, arith, rules}
use Rattle.ls_workers.proofs.Numbers.{AreFirst, first_push}
use Rattle.ls_workers.proofs.crew.seats_of.Goals as goal

pub loop-number-preserved : goal.loop-number-preserved
loop-number-preserved g c = (
  (omega arith, omega arith, omega arith),
  (search rules, search rules, search rules),
  subst (λ items. AreFirst (λ seat. seat.mark) (λ seat. seat.number) (λ seat. seat.took.share.amount) (λ seat. seat.returned.share.amount) (λ seat. seat.finished.share.amount) c.args.mark items (c.loop-number.number + 1))
      (sym c.in_ok-push.ensures.items)
      (first_push _ _ _ _ _ c.args.mark c.loop-number.seats.items _ c.loop-number.number refl refl (search rules) (search rules) (search rules) c.loop-number.invariant.2),
)

pub returns-clause-all : goal.returns-clause-all
returns-clause-all g c = record {
  marks = c.loop-number.invariant.2.marks;
  count_is = c.loop-number.invariant.2.count_is ∙ omega arith;
  numbers = λ number less. c.loop-number.invariant.2.numbers.once number (omega arith);
}
