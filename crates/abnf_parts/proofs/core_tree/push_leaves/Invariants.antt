use Rattle.std.proofs.Common.{map, take}
use Rattle.abnf_parts.specs.CoreTable.{leaf_part, number_in}
use Rattle.abnf_parts.specs.Pushed.{AddsTrees}
use Rattle.abnf_parts.proofs.core_tree.push_leaves.Given as goal

abbrev pub invariant-loop-leaf : goal.invariant-loop-leaf
invariant-loop-leaf l =
    AddsTrees (map (leaf_part (number_in l.numbering.first l.numbering.names.now)) (take l.leaf-index l.leaves)) l.initial.nodes.items l.nodes.items l.initial.numbers l.numbers
