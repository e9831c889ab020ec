use Rattle.std.proofs.Common.{map, take, ◌+◌, ◌*◌}
use Rattle.abnf_parts.specs.Names.{all_names, rule_number}
use Rattle.abnf_parts.specs.Tree.{repetition_part, concatenation_part, tree_inside}
use Rattle.abnf_parts.specs.Pushed.{AddsTrees}
use Rattle.abnf_parts.proofs.tree.+tree.Given as goal

abbrev pub invariant-push_concatenations-loop-concatenation : goal.invariant-push_concatenations-loop-concatenation
invariant-push_concatenations-loop-concatenation l =
    AddsTrees (map (concatenation_part (rule_number (all_names l.names)) (tree_inside (rule_number (all_names l.names)) l.room)) (take l.concatenation-index l.alternation)) l.initial.nodes.items l.nodes.items l.initial.numbers l.numbers

abbrev pub invariant-push_repetitions-loop-repetition : goal.invariant-push_repetitions-loop-repetition
invariant-push_repetitions-loop-repetition l =
    AddsTrees (map (repetition_part (rule_number (all_names l.names)) (tree_inside (rule_number (all_names l.names)) l.room)) (take l.repetition-index l.concatenation)) l.initial.nodes.items l.nodes.items l.initial.numbers l.numbers

abbrev pub decreases-push_inside : goal.decreases-push_inside
decreases-push_inside l = 8 * l.room

abbrev pub decreases-push_concatenations : goal.decreases-push_concatenations
decreases-push_concatenations l = 8 * l.room + 6

abbrev pub decreases-push_concatenation : goal.decreases-push_concatenation
decreases-push_concatenation l = 8 * l.room + 5

abbrev pub decreases-push_repetitions : goal.decreases-push_repetitions
decreases-push_repetitions l = 8 * l.room + 4

abbrev pub decreases-push_repetition : goal.decreases-push_repetition
decreases-push_repetition l = 8 * l.room + 3
