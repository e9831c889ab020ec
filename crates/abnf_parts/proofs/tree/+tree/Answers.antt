use Rattle.std.proofs.Common.{◌≡◌, ◌-◌, refl, sym, ap, ◌∙◌}
use Rattle.abnf_parts.specs.Names.{all_names, rule_number}
use Rattle.abnf_parts.specs.Part.{alt}
use Rattle.abnf_parts.specs.Tree.{repetition_part, concatenation_part, tree_inside}
use Rattle.abnf_parts.proofs.Pushing.{seq_added, alt_added, trees_next, join_one, on_ok, on_refused, inside_is}
use Rattle.abnf_parts.proofs.tree.+tree.Goals as goal

pub push_concatenations-loop-concatenation-preserved : goal.push_concatenations-loop-concatenation-preserved
push_concatenations-loop-concatenation-preserved t c =
    trees_next (concatenation_part (rule_number (all_names c.args.names.now)) (tree_inside (rule_number (all_names c.args.names.now)) c.args.room)) c.args.alternation.now c.concatenation-item.result c.concatenation-item.result c.loop-concatenation.concatenation-index
    c.args.nodes.now.items c.loop-concatenation.nodes.items c.push_concatenation.new.nodes.items c.reserve.new.self c.loop-concatenation.numbers c.add_next.new.numbers
    c.loop-concatenation-test.true (sym c.concatenation-item.is) c.loop-concatenation.invariant
    c.in_ok-add_next.ensures
    (rw (sym c.as_slice.ensures) c.in_ok-push_concatenation.ensures)

pub push_repetitions-loop-repetition-preserved : goal.push_repetitions-loop-repetition-preserved
push_repetitions-loop-repetition-preserved t c =
    trees_next (repetition_part (rule_number (all_names c.args.names.now)) (tree_inside (rule_number (all_names c.args.names.now)) c.args.room)) c.args.concatenation.now c.repetition-item.result c.repetition-item.result c.loop-repetition.repetition-index
    c.args.nodes.now.items c.loop-repetition.nodes.items c.push_repetition.new.nodes.items c.reserve.new.self c.loop-repetition.numbers c.add_next.new.numbers
    c.loop-repetition-test.true (sym c.repetition-item.is) c.loop-repetition.invariant
    c.in_ok-add_next.ensures
    c.in_ok-push_repetition.ensures

pub push_concatenation-returns : goal.push_concatenation-returns
push_concatenation-returns t c =
    seq_added (repetition_part (rule_number (all_names c.args.names.now)) (tree_inside (rule_number (all_names c.args.names.now)) c.args.room)) c.args.concatenation.now c.in_ok-at.at _ c.args.nodes.now.items c.hold_place.new.nodes.items
    c.push_repetitions.new.nodes.items c.fill.new.nodes.items c.new-numbers.result c.push_repetitions.new.numbers c.push_repetitions.new.numbers
    c.if-concatenation-eq1.false c.in_ok-at.ensures.number c.new-numbers.ensures c.in_ok-at.ensures.pushed c.in_ok-push_repetitions.ensures refl c.fill.ensures

pub push_inside-returns : goal.push_inside-returns
push_inside-returns t c =
    rw (inside_is (rule_number (all_names c.args.names.now)) c.args.room c.args.alternation.now c.if-room-eq0.false)
    (alt_added (concatenation_part (rule_number (all_names c.args.names.now)) (tree_inside (rule_number (all_names c.args.names.now)) (c.args.room - 1))) c.args.alternation.now c.in_ok-at.at _ c.args.nodes.now.items c.hold_place.new.nodes.items
    c.push_concatenations.new.nodes.items c.fill.new.nodes.items c.new-numbers.result c.push_concatenations.new.numbers c.push_concatenations.new.numbers
    c.if-alternation-eq1.false c.in_ok-at.ensures.number c.new-numbers.ensures c.in_ok-at.ensures.pushed c.in_ok-push_concatenations.ensures refl c.fill.ensures)

pub push_inside-returns-then-alternation-eq1 : goal.push_inside-returns-then-alternation-eq1
push_inside-returns-then-alternation-eq1 t c =
    let number = rule_number (all_names c.args.names.now) in
    let f = concatenation_part number (tree_inside number (c.args.room - 1)) in
    let tree : tree_inside number c.args.room c.args.alternation.now ≡ f c.as_slice.result.now =
    inside_is number c.args.room c.args.alternation.now c.if-room-eq0.false
    ∙ (join_one alt f c.args.alternation.now c.index-alternation-0.result c.if-alternation-eq1.true (sym c.index-alternation-0.is) ∙ ap f (sym c.as_slice.ensures)) in
    rw tree c.push_concatenation.ensures

pub push_repetition-returns-in-Some : goal.push_repetition-returns-in-Some
push_repetition-returns-in-Some t c =
    let begun = rw c.in-Some.is at c.in_ok-inside.ensures in
    on_ok c.push_inside.result _ _ (begun (tree_inside (rule_number (all_names c.args.names.now)) c.args.room) c.push_inside.new.nodes.items) c.push_inside.ensures

pub push_concatenation-returns-in_err-at : goal.push_concatenation-returns-in_err-at
push_concatenation-returns-in_err-at t c = on_refused c.from_residual.result _ c.from_residual.ensures.0

pub push_concatenation-returns-in_err-push_repetitions : goal.push_concatenation-returns-in_err-push_repetitions
push_concatenation-returns-in_err-push_repetitions t c = on_refused c.from_residual-in_err-push_repetitions.result _ c.from_residual-in_err-push_repetitions.ensures.0

pub push_concatenations-returns-in_err-reserve : goal.push_concatenations-returns-in_err-reserve
push_concatenations-returns-in_err-reserve t c = on_refused c.from_residual.result _ c.from_residual.ensures.0

pub push_concatenations-returns-in_err-add_next : goal.push_concatenations-returns-in_err-add_next
push_concatenations-returns-in_err-add_next t c = on_refused c.from_residual-in_err-add_next.result _ c.from_residual-in_err-add_next.ensures.0

pub push_concatenations-returns-in_err-push_concatenation : goal.push_concatenations-returns-in_err-push_concatenation
push_concatenations-returns-in_err-push_concatenation t c = on_refused c.from_residual-in_err-push_concatenation.result _ c.from_residual-in_err-push_concatenation.ensures.0

pub push_inside-returns-in_err-at : goal.push_inside-returns-in_err-at
push_inside-returns-in_err-at t c = on_refused c.from_residual.result _ c.from_residual.ensures.0

pub push_inside-returns-in_err-push_concatenations : goal.push_inside-returns-in_err-push_concatenations
push_inside-returns-in_err-push_concatenations t c = on_refused c.from_residual-in_err-push_concatenations.result _ c.from_residual-in_err-push_concatenations.ensures.0

pub push_repetition-returns-in_err-inside : goal.push_repetition-returns-in_err-inside
push_repetition-returns-in_err-inside t c = on_refused c.from_residual.result _ c.from_residual.ensures.0

pub push_repetitions-returns-in_err-reserve : goal.push_repetitions-returns-in_err-reserve
push_repetitions-returns-in_err-reserve t c = on_refused c.from_residual.result _ c.from_residual.ensures.0

pub push_repetitions-returns-in_err-add_next : goal.push_repetitions-returns-in_err-add_next
push_repetitions-returns-in_err-add_next t c = on_refused c.from_residual-in_err-add_next.result _ c.from_residual-in_err-add_next.ensures.0

pub push_repetitions-returns-in_err-push_repetition : goal.push_repetitions-returns-in_err-push_repetition
push_repetitions-returns-in_err-push_repetition t c = on_refused c.from_residual-in_err-push_repetition.result _ c.from_residual-in_err-push_repetition.ensures.0
