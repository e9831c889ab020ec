use Rattle.std.proofs.Common.{rules}
use Rattle.origins.proofs.RowLaws.{rest_boundary, rest_le, row_chars}
use Rattle.origins.proofs.rows.first_row.Goals as goal

pub overflow_sub-text : goal.overflow_sub-text
overflow_sub-text c = rest_le c.args.text.now c.behind_row-count.result.1.now c.behind_row-count.result.0 c.utf8.text (search rules) c.behind_row-count.ensures.rest

pub split_at-requires : goal.split_at-requires
split_at-requires c = rest_boundary c.args.text.now c.behind_row-count.result.1.now c.behind_row-count.result.0 c.utf8.text (search rules) c.behind_row-count.ensures.rest

pub returns-clause-row : goal.returns-clause-row
returns-clause-row c = row_chars c.args.text.now c.behind_row-count.result.1.now c.behind_row-count.result.0 c.utf8.text (search rules) c.behind_row-count.ensures.rest c.split_at.result.0.now c.split_at.ensures.front
