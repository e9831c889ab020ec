use Rattle.std.proofs.Common.{map, refl}
use Rattle.abnf_parts.specs.CoreTable.{row_part, number_in}
use Rattle.abnf_parts.proofs.Pushing.{choice_added}
use Rattle.abnf_parts.proofs.core_tree.push_choice.Goals as goal

pub returns : goal.returns
returns c =
    choice_added (map (row_part (number_in c.args.numbering.now.first c.args.numbering.now.names.now)) c.args.rows.now) c.in_ok-at.at _ c.args.nodes.now.items c.hold_place.new.nodes.items
    c.push_rows.new.nodes.items c.fill.new.nodes.items c.new-numbers.result c.push_rows.new.numbers c.push_rows.new.numbers
    c.in_ok-at.ensures.number c.new-numbers.ensures c.in_ok-at.ensures.pushed c.in_ok-push_rows.ensures refl c.fill.ensures
