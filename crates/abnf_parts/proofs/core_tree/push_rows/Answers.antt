use Rattle.std.proofs.Common.{refl}
use Rattle.abnf_parts.specs.CoreTable.{row_part, number_in}
use Rattle.abnf_parts.proofs.Pushing.{trees_next}
use Rattle.abnf_parts.proofs.core_tree.push_rows.Goals as goal

pub loop-row-preserved : goal.loop-row-preserved
loop-row-preserved c =
    trees_next (row_part (number_in c.args.numbering.now.first c.args.numbering.now.names.now)) c.args.rows.now _ _ c.loop-row.row-index
    c.args.nodes.now.items c.loop-row.nodes.items c.push_row.new.nodes.items c.args.numbers.now c.loop-row.numbers c.add_next.new.numbers
    c.loop-row-test.true refl c.loop-row.invariant
    c.in_ok-add_next.ensures
    c.in_ok-push_row.ensures
