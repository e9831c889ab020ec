use Rattle.abnf_parts.specs.CoreTable.{number_in}
use Rattle.abnf_parts.proofs.CoreLaws.{leaf_added}
use Rattle.abnf_parts.proofs.Pushing.{on_ok}
use Rattle.abnf_parts.proofs.core_tree.push_leaf.Goals as goal

pub returns : goal.returns
returns c =
    on_ok c.push_node.result _ _
    (λ pushed. leaf_added (number_in c.args.numbering.now.first c.args.numbering.now.names.now) c.args.leaf.now c.in_ok-node.node c.args.nodes.now.items c.push_node.new.nodes.items pushed c.in_ok-node.ensures)
    c.push_node.ensures
