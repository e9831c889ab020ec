use Rattle.std.proofs.Common.{map, take, ◌+◌, ◌*◌}
use Rattle.abnf_parts.specs.Tree.{repetition_part, concatenation_part, tree_inside}
use Rattle.abnf_digests.specs.Digests.{no_number}
use Rattle.abnf_digests.specs.Gists.{gist}
use Rattle.findings_index.specs.own.Adding.{AddsWords}
use Rattle.findings_index.proofs.word.+words.Given as goal

abbrev pub invariant-push_concatenations-loop-concatenation : goal.invariant-push_concatenations-loop-concatenation
invariant-push_concatenations-loop-concatenation l =
    AddsWords (map gist (map (concatenation_part no_number (tree_inside no_number l.room)) (take l.concatenation-index l.alternation))) l.initial.names l.names l.initial.words.items l.words.items

abbrev pub invariant-push_repetitions-loop-repetition : goal.invariant-push_repetitions-loop-repetition
invariant-push_repetitions-loop-repetition l =
    AddsWords (map gist (map (repetition_part no_number (tree_inside no_number l.room)) (take l.repetition-index l.concatenation))) l.initial.names l.names l.initial.words.items l.words.items

abbrev pub decreases-push_inside : goal.decreases-push_inside
decreases-push_inside l = 8 * l.room

abbrev pub decreases-push_concatenations : goal.decreases-push_concatenations
decreases-push_concatenations l = 8 * l.room + 6

abbrev pub decreases-push_concatenation : goal.decreases-push_concatenation
decreases-push_concatenation l = 8 * l.room + 5

abbrev pub decreases-push_repetitions : goal.decreases-push_repetitions
decreases-push_repetitions l = 8 * l.room + 4

abbrev pub decreases-push_repetition : goal.decreases-push_repetition
decreases-push_repetition l = 8 * l.room + 3

abbrev pub decreases-push_element : goal.decreases-push_element
decreases-push_element l = 8 * l.room + 2
