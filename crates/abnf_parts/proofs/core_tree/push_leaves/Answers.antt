use Rattle.std.proofs.Common.{refl}
use Rattle.abnf_parts.specs.CoreTable.{leaf_part, number_in}
use Rattle.abnf_parts.proofs.Pushing.{trees_next}
use Rattle.abnf_parts.proofs.core_tree.push_leaves.Goals as goal

pub loop-leaf-preserved : goal.loop-leaf-preserved
loop-leaf-preserved c =
    trees_next (leaf_part (number_in c.args.numbering.now.first c.args.numbering.now.names.now)) c.args.leaves.now _ _ c.loop-leaf.leaf-index
    c.args.nodes.now.items c.loop-leaf.nodes.items c.push_leaf.new.nodes.items c.args.numbers.now c.loop-leaf.numbers c.add_next.new.numbers
    c.loop-leaf-test.true refl c.loop-leaf.invariant
    c.in_ok-add_next.ensures
    c.in_ok-push_leaf.ensures
