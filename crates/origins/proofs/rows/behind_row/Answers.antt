use Rattle.std.proofs.Common.{rules, sym, ◌∙◌, arith}
use Rattle.std.specs.Str.{chars}
use Rattle.origins.proofs.RowLaws.{drop_next, row_ends, row_goes_on, row_none}
use Rattle.origins.proofs.rows.behind_row.Goals as goal

pub returns-in_default-clause-count : goal.returns-in_default-clause-count
returns-in_default-clause-count c = omega (arith, c.characters.invariant.count, row_none (chars c.characters.rest.now) c.in_default.ensures)

pub overflow_add-count : goal.overflow_add-count
overflow_add-count c = omega (arith, c.characters.invariant.within, c.requires)

pub returns-then-is_break-clause-count : goal.returns-then-is_break-clause-count
returns-then-is_break-clause-count c =
    omega (arith, c.characters.invariant.count, row_ends c.in-Some.c (chars c.in-Some.more.now) (chars c.characters.rest.now) c.in-Some.ensures (sym c.is_break.ensures ∙ c.if-is_break.true))

pub returns-then-is_break-clause-rest : goal.returns-then-is_break-clause-rest
returns-then-is_break-clause-rest c =
    sym (drop_next c.characters.count (chars c.args.text.now) (chars c.in-Some.more.now) c.in-Some.c (sym c.characters.invariant.rest ∙ c.in-Some.ensures)).0

pub returns-then-is_break-clause-within : goal.returns-then-is_break-clause-within
returns-then-is_break-clause-within c =
    let next = drop_next c.characters.count (chars c.args.text.now) (chars c.in-Some.more.now) c.in-Some.c (sym c.characters.invariant.rest ∙ c.in-Some.ensures) in
    omega (arith, next.1)

pub characters-preserved : goal.characters-preserved
characters-preserved c =
    let next = drop_next c.characters.count (chars c.args.text.now) (chars c.in-Some.more.now) c.in-Some.c (sym c.characters.invariant.rest ∙ c.in-Some.ensures) in
    record {
      utf8 = search rules;
      rest = sym next.0;
      within = omega (arith, next.1);
      count = omega (arith, c.characters.invariant.count, row_goes_on c.in-Some.c (chars c.in-Some.more.now) (chars c.characters.rest.now) c.in-Some.ensures (sym c.is_break.ensures ∙ c.if-is_break.false));
    }
