use Rattle.std.proofs.Common.{◌+◌, ◌∙◌, ap, sym, drop}
use Rattle.std.specs.Prelude.{Err}
use Rattle.std.proofs.lemmas.Result.{err_from_is_err_and}
use Rattle.ls_text.specs.Lines.{units}
use Rattle.ls_text.specs.Edits.{edited_all, is_too_large}
use Rattle.ls_text.proofs.EditLaws.{all_end, all_more, all_none}
use Rattle.ls_text.proofs.snapshot.Snapshot.edited_all.Goals as goal

pub returns-in_err-text-clause-too_large : goal.returns-in_err-text-clause-too_large
returns-in_err-text-clause-too_large c =
    let p = err_from_is_err_and c.from_residual.result c.from_residual.ensures.1 in
    rw p.1 (λ e. c.loop-edit.invariant ∙ all_none (units c.args.encoding) c.loop-edit.text c.args.edits.now c.loop-edit.edit-index c.edit-item.result c.loop-edit-test.true c.edit-item.is (c.in_err-text.ensures.too_large.0 (ap Err (sym p.2 ∙ e))))

pub loop-edit-preserved : goal.loop-edit-preserved
loop-edit-preserved c =
    c.loop-edit.invariant
    ∙ all_more (units c.args.encoding) c.loop-edit.text c.args.edits.now c.loop-edit.edit-index c.edit-item.result c.loop-edit-test.true c.edit-item.is (ap is_too_large (sym c.in_ok-text.ensures.ok.0) ∙ c.in_ok-text.ensures.ok.1)
    ∙ ap (λ t. edited_all (units c.args.encoding) t (drop (c.loop-edit.edit-index + 1) c.args.edits.now)) (sym c.in_ok-text.ensures.ok.0)

pub returns-clause-ok : goal.returns-clause-ok
returns-clause-ok c = c.loop-edit.invariant ∙ all_end (units c.args.encoding) c.loop-edit.text c.args.edits.now c.loop-edit.edit-index c.loop-edit-test.false
