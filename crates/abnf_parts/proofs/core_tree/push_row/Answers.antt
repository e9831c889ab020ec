use Rattle.std.proofs.Common.{refl}
use Rattle.abnf_parts.specs.CoreTable.{leaf_part, number_in}
use Rattle.abnf_parts.proofs.Pushing.{seq_added}
use Rattle.abnf_parts.proofs.core_tree.push_row.Goals as goal

pub returns : goal.returns
returns c =
    seq_added (leaf_part (number_in c.args.numbering.now.first c.args.numbering.now.names.now)) c.args.row.now c.in_ok-at.at _ c.args.nodes.now.items c.hold_place.new.nodes.items
    c.push_leaves.new.nodes.items c.fill.new.nodes.items c.new-numbers.result c.push_leaves.new.numbers c.push_leaves.new.numbers
    c.if-row-eq1.false c.in_ok-at.ensures.number c.new-numbers.ensures c.in_ok-at.ensures.pushed c.in_ok-push_leaves.ensures refl c.fill.ensures
