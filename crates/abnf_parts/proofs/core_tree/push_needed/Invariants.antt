use Rattle.std.proofs.Common.{map, take}
use Rattle.abnf_parts.specs.CoreTable.{core_of, number_in}
use Rattle.abnf_parts.specs.Pushed.{AddsTrees}
use Rattle.abnf_parts.proofs.core_tree.push_needed.Given as goal

abbrev pub invariant-loop-core : goal.invariant-loop-core
invariant-loop-core l =
    AddsTrees (map (λ core. (core_of core).tree (number_in l.first l.names)) (take l.core-index l.needed)) l.initial.nodes.items l.nodes.items l.initial.roots l.roots
