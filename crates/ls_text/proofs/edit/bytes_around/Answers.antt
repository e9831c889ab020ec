use Rattle.std.proofs.Common.{arith}
use Rattle.ls_text.proofs.SizeLaws.{bytes_before, bytes_both, bytes_between, lines_in_order}
use Rattle.ls_text.proofs.edit.bytes_around.Goals as goal

pub bytes_between-requires-clause-order : goal.bytes_between-requires-clause-order
bytes_between-requires-clause-order c = lines_in_order c.args.lines.now c.requires.lines.lines c.args.from c.args.to c.requires.from c.requires.to c.requires.order

pub bytes_between-requires-clause-within : goal.bytes_between-requires-clause-within
bytes_between-requires-clause-within c = omega (arith, c.requires.to.line_in_range)

pub overflow_add-gone : goal.overflow_add-gone
overflow_add-gone c =
    let order = lines_in_order c.args.lines.now c.requires.lines.lines c.args.from c.args.to c.requires.from c.requires.to c.requires.order in
    omega (
      arith,
      c.bytes_between.ensures,
      bytes_between c.args.lines.now c.args.from.line c.args.to.line order,
      bytes_before c.args.lines.now c.args.from c.requires.from,
      bytes_both c.args.lines.now c.args.from c.requires.from,
      bytes_before c.args.lines.now c.args.to c.requires.to,
      bytes_both c.args.lines.now c.args.to c.requires.to,
      c.requires.lines.small,
    )

pub overflow_add-result : goal.overflow_add-result
overflow_add-result c =
    let order = lines_in_order c.args.lines.now c.requires.lines.lines c.args.from c.args.to c.requires.from c.requires.to c.requires.order in
    omega (
      arith,
      c.bytes_between.ensures,
      bytes_between c.args.lines.now c.args.from.line c.args.to.line order,
      bytes_before c.args.lines.now c.args.from c.requires.from,
      bytes_both c.args.lines.now c.args.from c.requires.from,
      bytes_before c.args.lines.now c.args.to c.requires.to,
      bytes_both c.args.lines.now c.args.to c.requires.to,
      c.requires.lines.small,
      c.byte_count.ensures,
    )

pub overflow_sub-result : goal.overflow_sub-result
overflow_sub-result c =
    let order = lines_in_order c.args.lines.now c.requires.lines.lines c.args.from c.args.to c.requires.from c.requires.to c.requires.order in
    omega (
      arith,
      c.bytes_between.ensures,
      bytes_between c.args.lines.now c.args.from.line c.args.to.line order,
      bytes_before c.args.lines.now c.args.from c.requires.from,
      bytes_both c.args.lines.now c.args.from c.requires.from,
      bytes_before c.args.lines.now c.args.to c.requires.to,
      bytes_both c.args.lines.now c.args.to c.requires.to,
      c.requires.lines.small,
      c.byte_count.ensures,
    )

pub returns : goal.returns
returns c =
    let order = lines_in_order c.args.lines.now c.requires.lines.lines c.args.from c.args.to c.requires.from c.requires.to c.requires.order in
    omega (
      arith,
      c.bytes_between.ensures,
      bytes_between c.args.lines.now c.args.from.line c.args.to.line order,
      bytes_before c.args.lines.now c.args.from c.requires.from,
      bytes_both c.args.lines.now c.args.from c.requires.from,
      bytes_before c.args.lines.now c.args.to c.requires.to,
      bytes_both c.args.lines.now c.args.to c.requires.to,
      c.requires.lines.small,
      c.byte_count.ensures,
    )
