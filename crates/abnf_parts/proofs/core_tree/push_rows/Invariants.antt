use Rattle.std.proofs.Common.{map, take}
use Rattle.abnf_parts.specs.CoreTable.{row_part, number_in}
use Rattle.abnf_parts.specs.Pushed.{AddsTrees}
use Rattle.abnf_parts.proofs.core_tree.push_rows.Given as goal

abbrev pub invariant-loop-row : goal.invariant-loop-row
invariant-loop-row l =
    AddsTrees (map (row_part (number_in l.numbering.first l.numbering.names.now)) (take l.row-index l.rows)) l.initial.nodes.items l.nodes.items l.initial.numbers l.numbers
