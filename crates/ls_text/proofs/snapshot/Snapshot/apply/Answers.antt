use Rattle.std.proofs.Common.{◌≡◌, ◌∙◌, ap, sym, arith, length, length-drop, take, drop, ◌-◌, List, ℕ, Bool, true, false}
use Rattle.std.specs.Prelude.{Some, None, Err}
use Rattle.std.proofs.lemmas.Result.{err_from_is_err_and, IfOk-weaker, IfErr-weaker}
use Rattle.std.proofs.lemmas.List.{take_all}
use Rattle.ls_text.specs.declared.edit.Edit.{Edit}
use Rattle.ls_text.specs.Lines.{units}
use Rattle.ls_text.specs.Edits.{edited_all, is_too_large, first_is_too_large}
use Rattle.ls_text.specs.declared.fault.TextFault.TheVariants.{TooLarge}
use Rattle.ls_text.proofs.EditLaws.{all_end, all_more, all_none, first_large, none_large}
use Rattle.ls_text.proofs.snapshot.Snapshot.apply.Goals as goal

pub returns-in_ok-share-in-empty-clause-ok : goal.returns-in_ok-share-in-empty-clause-ok
returns-in_ok-share-in-empty-clause-ok c = all_end (units c.args.encoding) c.args.self.now c.args.edits.now 0 (omega (arith, c.in-empty.len_below)) ∙ ap Some (sym c.in_ok-share-in-empty.ensures)

pub returns-in_err-edited-in-len1-up-clause-too_large :
    goal.returns-in_err-edited-in-len1-up-clause-too_large
returns-in_err-edited-in-len1-up-clause-too_large c =
    let p = err_from_is_err_and c.from_residual-in_err-edited-in-len1-up.result c.from_residual-in_err-edited-in-len1-up.ensures.1 in
    rw p.1 (λ e. all_none (units c.args.encoding) c.args.self.now c.args.edits.now 0 c.first-item.result (omega (arith, c.in-len1-up.len_at_least)) c.first-item.is (c.in_err-edited-in-len1-up.ensures.too_large.0 (ap Err (sym p.2 ∙ e))))

-- all the edits after the first
rest_all : (es : List Edit) → drop 1 es ≡ take (length es - 1) (drop 1 es)
rest_all es = sym (take_all (length es - 1) (drop 1 es) (omega (arith, length-drop 1 es)))

from_first : (c : goal.After-edited_all) → edited_all (units c.args.encoding) c.args.self.now c.args.edits.now ≡ edited_all (units c.args.encoding) c.in_ok-edited-in-len1-up.field-0 (take (length c.args.edits.now - 1) (drop 1 c.args.edits.now))
from_first c =
    let first = c.in_ok-edited-in-len1-up.ensures.ok in
    all_more (units c.args.encoding) c.args.self.now c.args.edits.now 0 c.first-item.result (omega (arith, c.in-len1-up.len_at_least)) c.first-item.is (ap is_too_large (sym first.0) ∙ first.1)
    ∙ (λ i. edited_all (units c.args.encoding) (sym first.0 i) (rest_all c.args.edits.now i))

pub returns-in_ok-edited-in-len1-up-clause-ok : goal.returns-in_ok-edited-in-len1-up-clause-ok
returns-in_ok-edited-in-len1-up-clause-ok c =
    IfOk-weaker c.edited_all.result _ (λ (s : List ℕ). edited_all (units c.args.encoding) c.args.self.now c.args.edits.now ≡ Some s) (λ s h. from_first c ∙ h) c.edited_all.ensures.ok

pub returns-in_ok-edited-in-len1-up-clause-too_large :
    goal.returns-in_ok-edited-in-len1-up-clause-too_large
returns-in_ok-edited-in-len1-up-clause-too_large c =
    IfErr-weaker c.edited_all.result _ (λ e. e ≡ TooLarge → edited_all (units c.args.encoding) c.args.self.now c.args.edits.now ≡ None) (λ e before is. from_first c ∙ before is) c.edited_all.ensures.too_large

pub returns-in_ok-share-in-empty-clause-first : goal.returns-in_ok-share-in-empty-clause-first
returns-in_ok-share-in-empty-clause-first c = λ large. absurd (none_large (units c.args.encoding) c.args.self.now c.args.edits.now (omega (arith, c.in-empty.len_below)) large)

pub returns-in_err-share-in-empty-clause-first : goal.returns-in_err-share-in-empty-clause-first
returns-in_err-share-in-empty-clause-first c = λ large. absurd (none_large (units c.args.encoding) c.args.self.now c.args.edits.now (omega (arith, c.in-empty.len_below)) large)

pub returns-in_err-edited-in-len1-up-clause-first : goal.returns-in_err-edited-in-len1-up-clause-first
returns-in_err-edited-in-len1-up-clause-first c = λ large.
    let p = err_from_is_err_and c.from_residual-in_err-edited-in-len1-up.result c.from_residual-in_err-edited-in-len1-up.ensures.1 in
    let first = first_large (units c.args.encoding) c.args.self.now c.args.edits.now c.first-item.result (omega (arith, c.in-len1-up.len_at_least)) c.first-item.is in
    p.1 ∙ ap Err p.2 ∙ c.in_err-edited-in-len1-up.ensures.too_large.1 (sym first ∙ large)

pub returns-in_ok-edited-in-len1-up-clause-first : goal.returns-in_ok-edited-in-len1-up-clause-first
returns-in_ok-edited-in-len1-up-clause-first c = λ large.
    let first = first_large (units c.args.encoding) c.args.self.now c.args.edits.now c.first-item.result (omega (arith, c.in-len1-up.len_at_least)) c.first-item.is in
    let small = ap is_too_large (sym c.in_ok-edited-in-len1-up.ensures.ok.0) ∙ c.in_ok-edited-in-len1-up.ensures.ok.1 in
    absurd (not_both (first_is_too_large (units c.args.encoding) c.args.self.now c.args.edits.now) large (first ∙ small))
  where
    not_both : (b : Bool) → b ≡ true → b ≡ false → ⊥
    not_both b y n = cc
