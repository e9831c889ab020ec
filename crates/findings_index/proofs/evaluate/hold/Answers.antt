use Rattle.std.proofs.Common.{◌∙◌, ap}
use Rattle.std.specs.List.{list_any}
use Rattle.abnf_lint.specs.Marks.{mark_at}
use Rattle.findings_index.specs.Words.{is_so}
use Rattle.findings_index.proofs.WordLaws.{left_any, one_holds, run_more, several_hold}
use Rattle.findings_index.proofs.evaluate.hold.Goals as goal

pub loop-word-preserved : goal.loop-word-preserved
loop-word-preserved c =
    run_more (mark_at c.args.marks.now) c.args.words.now c.loop-word.word-index _ c.loop-word.stack.items c.value_of-value.new.stack.items c.push.new.self.items c.value_of-value.result
    c.loop-word-test.true c.loop-word.invariant c.value_of-value.ensures c.in_ok-push.ensures.items

pub returns-clause-one : goal.returns-clause-one
returns-clause-one c = λ number part are.
    let marks = mark_at c.args.marks.now in
    c.one_holds.ensures ∙ (ap (list_any is_so) c.as_slice.ensures.value
    ∙ (left_any marks c.args.words.now c.loop-word.word-index c.loop-word.stack.items c.loop-word-test.false c.loop-word.invariant
    ∙ one_holds marks number part c.args.words.now are))

pub returns-clause-several : goal.returns-clause-several
returns-clause-several c = λ number parts are.
    let marks = mark_at c.args.marks.now in
    c.one_holds.ensures ∙ (ap (list_any is_so) c.as_slice.ensures.value
    ∙ (left_any marks c.args.words.now c.loop-word.word-index c.loop-word.stack.items c.loop-word-test.false c.loop-word.invariant
    ∙ several_hold marks number parts c.args.words.now are))
