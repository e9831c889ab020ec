use Rattle.std.proofs.Common.{rules, arith}
use Rattle.std.specs.Str.{chars}
use Rattle.origins.specs.own.Runs.{origin_at}
use Rattle.origins.proofs.RowLaws.{left_len, row_put, rows_end}
use Rattle.origins.proofs.gathered.put_aligned.Goals as goal

pub returns-then-count-eq0 : goal.returns-then-count-eq0
returns-then-count-eq0 c =
    rows_end c.args.base c.rows.at c.without_indent-gone.result.0 c.first_row-count.result.1 (origin_at c.args.runs.now) (chars c.without_indent-gone.result.1.now) c.rows.to _ c.first_row-count.ensures.count c.if-count-eq0.true (c.without_indent-gone.ensures.kept (origin_at c.args.runs.now) c.rows.at) c.rows.invariant.so_far

pub rows-preserved : goal.rows-preserved
rows-preserved c =
    let kept = chars c.without_indent-gone.result.1.now in
    let behind = chars c.first_row-count.result.2.now in
    record {
      utf8 = search rules;
      count = omega (arith, c.rows.invariant.count, left_len (chars c.rows.rest.now) kept behind c.without_indent-gone.result.0 c.first_row-count.result.1 c.without_indent-gone.ensures.rest c.without_indent-gone.ensures.within c.first_row-count.ensures.rest c.first_row-count.ensures.within);
      so_far = row_put c.args.base c.rows.at c.without_indent-gone.result.0 c.first_row-count.result.1 (origin_at c.args.runs.now) kept (chars c.first_row-count.result.0.now) behind c.rows.to c.put_row.new.to _ c.first_row-count.ensures.count c.first_row-count.ensures.row c.first_row-count.ensures.rest c.in_ok-put_row.ensures (c.without_indent-gone.ensures.kept (origin_at c.args.runs.now) c.rows.at) c.rows.invariant.so_far;
    }
