use Rattle.std.proofs.Common.{◌+◌, ◌-◌, rules, sym, ◌∙◌, arith}
use Rattle.std.specs.Str.{chars}
use Rattle.origins.proofs.RowLaws.{drop_next, nothing_stays, one_more_goes, others_stay}
use Rattle.origins.proofs.rows.without_indent.Goals as goal

pub returns-in_default-clause-kept : goal.returns-in_default-clause-kept
returns-in_default-clause-kept c f at =
    nothing_stays c.args.base 0 (at + c.blanks.gone) f (chars c.blanks.rest.now) c.in_default.ensures
    ∙ sym (nothing_stays c.args.base (c.args.base - c.blanks.gone) (at + c.blanks.gone) f (chars c.blanks.rest.now) c.in_default.ensures)
    ∙ c.blanks.invariant.kept f at

pub returns-else-is_blank-clause-kept : goal.returns-else-is_blank-clause-kept
returns-else-is_blank-clause-kept c f at =
    sym (others_stay c.args.base (c.args.base - c.blanks.gone) (at + c.blanks.gone) c.in-Some.c f (chars c.in-Some.more.now) (chars c.blanks.rest.now) c.in-Some.ensures (sym c.is_blank.ensures ∙ c.if-is_blank.false))
    ∙ c.blanks.invariant.kept f at

pub blanks-preserved : goal.blanks-preserved
blanks-preserved c =
    let next = drop_next c.blanks.gone (chars c.args.text.now) (chars c.in-Some.more.now) c.in-Some.c (sym c.blanks.invariant.rest ∙ c.in-Some.ensures) in
    record {
      utf8 = search rules;
      few = omega (arith, c.blanks-test.true);
      rest = sym next.0;
      within = omega (arith, next.1);
      kept = λ f at. one_more_goes c.args.base c.blanks.gone at c.in-Some.c f (chars c.in-Some.more.now) (chars c.blanks.rest.now) c.blanks-test.true c.in-Some.ensures (sym c.is_blank.ensures ∙ c.if-is_blank.true) (c.blanks.invariant.kept f at);
    }
