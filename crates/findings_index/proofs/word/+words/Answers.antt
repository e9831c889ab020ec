use Rattle.std.proofs.Common.{◌-◌, [], ◌∷◌, ◌++◌, ◌∙◌, ap, sym, subst}
use Rattle.abnf_parts.specs.Part.{alt, seq}
use Rattle.abnf_parts.specs.Tree.{concatenation_part, element_part, repetition_part, tree_inside}
use Rattle.abnf_parts.proofs.Pushing.{inside_is, on_ok}
use Rattle.abnf_syntax.specs.declared.tree.Element.{out-Element}
use Rattle.abnf_syntax.specs.declared.tree.Repetition.{out-Repetition}
use Rattle.abnf_digests.specs.Digests.{no_number}
use Rattle.abnf_digests.specs.Gists.{gist}
use Rattle.findings_index.specs.declared.word.Word.TheVariants as w
use Rattle.findings_index.specs.own.Adding.{AddsWords}
use Rattle.findings_index.proofs.Pushing.{adds_alt, adds_more, adds_one, adds_repeat, adds_seq}
use Rattle.findings_index.proofs.word.+words.Goals as goal

pub push_concatenation-returns-in_ok-push : goal.push_concatenation-returns-in_ok-push
push_concatenation-returns-in_ok-push t c =
    adds_seq (repetition_part no_number (tree_inside no_number c.args.room)) c.args.concatenation.now c.args.names.now c.push_repetitions.new.names
    c.args.words.now.items c.push_repetitions.new.words.items c.push.new.self.items c.in_ok-push_repetitions.ensures c.if-concatenation-ne1.true
    (c.in_ok-push.ensures.items ∙ ap (λ n. c.push_repetitions.new.words.items ++ w.All n ∷ []) c.in_ok-narrow.ensures.value)

pub push_concatenation-returns-else-concatenation-ne1 : goal.push_concatenation-returns-else-concatenation-ne1
push_concatenation-returns-else-concatenation-ne1 t c =
    adds_one seq (repetition_part no_number (tree_inside no_number c.args.room)) c.args.concatenation.now c.args.names.now c.push_repetitions.new.names
    c.args.words.now.items c.push_repetitions.new.words.items c.if-concatenation-ne1.false c.in_ok-push_repetitions.ensures

pub push_concatenations-loop-concatenation-preserved : goal.push_concatenations-loop-concatenation-preserved
push_concatenations-loop-concatenation-preserved t c =
    let f = concatenation_part no_number (tree_inside no_number c.args.room) in
    adds_more f c.args.alternation.now c.loop-concatenation.concatenation-index c.concatenation-item.result c.args.names.now c.loop-concatenation.names c.push_concatenation.new.names
    c.args.words.now.items c.loop-concatenation.words.items c.push_concatenation.new.words.items c.loop-concatenation-test.true c.loop-concatenation.invariant
    (subst (λ x. AddsWords (gist (f x) ∷ []) c.loop-concatenation.names c.push_concatenation.new.names c.loop-concatenation.words.items c.push_concatenation.new.words.items)
    (c.as_slice.ensures ∙ c.concatenation-item.is) c.in_ok-push_concatenation.ensures)

pub push_inside-returns-in_ok-push-2 : goal.push_inside-returns-in_ok-push-2
push_inside-returns-in_ok-push-2 t c =
    rw (inside_is no_number c.args.room c.args.alternation.now c.if-room-eq0.false)
    (adds_alt (concatenation_part no_number (tree_inside no_number (c.args.room - 1))) c.args.alternation.now c.args.names.now c.push_concatenations.new.names
    c.args.words.now.items c.push_concatenations.new.words.items c.push-then-alternation-ne1.new.self.items c.in_ok-push_concatenations.ensures
    c.if-alternation-ne1.true (c.in_ok-push-2.ensures.items ∙ ap (λ n. c.push_concatenations.new.words.items ++ w.Any n ∷ []) c.in_ok-narrow.ensures.value))

pub push_inside-returns-else-alternation-ne1 : goal.push_inside-returns-else-alternation-ne1
push_inside-returns-else-alternation-ne1 t c =
    rw (inside_is no_number c.args.room c.args.alternation.now c.if-room-eq0.false)
    (adds_one alt (concatenation_part no_number (tree_inside no_number (c.args.room - 1))) c.args.alternation.now c.args.names.now c.push_concatenations.new.names
    c.args.words.now.items c.push_concatenations.new.words.items c.if-alternation-ne1.false c.in_ok-push_concatenations.ensures)

pub push_repetition-returns-in-Some : goal.push_repetition-returns-in-Some
push_repetition-returns-in-Some t c =
    let bounds = c.repeat_bounds-least.result in
    let layer = out-Repetition c.args.repetition.now in
    rw (c.in-Some.is, sym c.repeat_bounds-least.ensures)
    (on_ok c.push_repeat.result _ _
    (adds_repeat bounds.0 bounds.1 (element_part no_number (tree_inside no_number c.args.room) (out-Element layer.element)) c.args.names.now c.push_element.new.names
    c.args.words.now.items c.push_element.new.words.items c.push_repeat.new.words.items c.in_ok-push_element.ensures)
    c.push_repeat.ensures)

pub push_repetitions-loop-repetition-preserved : goal.push_repetitions-loop-repetition-preserved
push_repetitions-loop-repetition-preserved t c =
    let f = repetition_part no_number (tree_inside no_number c.args.room) in
    adds_more f c.args.concatenation.now c.loop-repetition.repetition-index c.repetition-item.result c.args.names.now c.loop-repetition.names c.push_repetition.new.names
    c.args.words.now.items c.loop-repetition.words.items c.push_repetition.new.words.items c.loop-repetition-test.true c.loop-repetition.invariant
    (subst (λ x. AddsWords (gist (f x) ∷ []) c.loop-repetition.names c.push_repetition.new.names c.loop-repetition.words.items c.push_repetition.new.words.items)
    c.repetition-item.is c.in_ok-push_repetition.ensures)
