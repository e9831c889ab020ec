use Rattle.std.proofs.Common.{◌≡◌, ◌∙◌, ap, sym, subst, arith, length, List, ℕ}
use Rattle.std.specs.Prelude.{Err}
use Rattle.std.specs.Str.{chars, encode_utf8_all}
use Rattle.std.proofs.lemmas.Result.{err_from_is_err_and}
use Rattle.ls_text.specs.Lines.{units}
use Rattle.ls_text.specs.Edits.{edited, replaced, position_offset, is_too_large}
use Rattle.ls_text.specs.Cut.{IsCut}
use Rattle.ls_text.specs.Cut.{Row}
use Rattle.ls_text.proofs.EditLaws.{edited_none, edited_some, not_larger, larger, large_bytes, carried}
use Rattle.ls_text.proofs.snapshot.Snapshot.edited.Goals as goal
use Rattle.ls_text.proofs.snapshot.Snapshot.edited.Goals.{in-None+in_ok-lines-in-None, in-Some+in_ok-lines-in-Some}

lines_are : (c : goal.After-kept) → IsCut (edited (units c.args.encoding) c.args.self.now c.args.edit.now) c.match-edit.lines
lines_are c =
    elim c.match-edit.branch [
      | in-None+in_ok-lines-in-None w ↦
          let text_is : chars w.as_str.result.now ≡ edited (units c.args.encoding) c.args.self.now c.args.edit.now = ap chars w.as_str.ensures ∙ sym (edited_none (units c.args.encoding) c.args.self.now c.args.edit.now w.in-None.is) in
          let cut : IsCut (chars w.as_str.result.now) w.in_ok-lines-in-None.lines = w.in_ok-lines-in-None.ensures.ok in
          subst (λ (v : List Row). IsCut (edited (units c.args.encoding) c.args.self.now c.args.edit.now) v) (sym w.lines-is) (cut.0, cut.1 ∙ text_is)
      | in-Some+in_ok-lines-in-Some w ↦
          let r = w.in-Some.range in
          let text_is : replaced c.args.self.now (position_offset (units c.args.encoding) c.args.self.now r.start) (position_offset (units c.args.encoding) c.args.self.now r.end) (chars w.as_str-in-Some.result.now) ≡ edited (units c.args.encoding) c.args.self.now c.args.edit.now =
          ap (λ x. replaced c.args.self.now (position_offset (units c.args.encoding) c.args.self.now r.start) (position_offset (units c.args.encoding) c.args.self.now r.end) (chars x)) w.as_str-in-Some.ensures ∙ sym (edited_some (units c.args.encoding) c.args.self.now c.args.edit.now w.in-Some.range w.in-Some.is) in
          let cut : IsCut (replaced c.args.self.now (position_offset (units c.args.encoding) c.args.self.now w.in-Some.range.start) (position_offset (units c.args.encoding) c.args.self.now w.in-Some.range.end) (chars w.as_str-in-Some.result.now)) w.in_ok-lines-in-Some.lines = w.in_ok-lines-in-Some.ensures.ok in
          subst (λ (v : List Row). IsCut (edited (units c.args.encoding) c.args.self.now c.args.edit.now) v) (sym w.lines-is) (cut.0, cut.1 ∙ text_is)
    ]

pub returns-in_err-lines-in-None-clause-too_large :
    goal.returns-in_err-lines-in-None-clause-too_large
returns-in_err-lines-in-None-clause-too_large c =
    let p = err_from_is_err_and c.from_residual.result c.from_residual.ensures.1 in
    let text_is : edited (units c.args.encoding) c.args.self.now c.args.edit.now ≡ chars c.as_str.result.now = edited_none (units c.args.encoding) c.args.self.now c.args.edit.now c.in-None.is ∙ sym (ap chars c.as_str.ensures) in
    carried c.from_residual.result _ (p.1 ∙ ap Err p.2) c.in_err-lines-in-None.ensures.too_large
    (λ more. ap is_too_large text_is ∙ larger (length (encode_utf8_all (chars c.as_str.result.now))) more)
    (λ large. large_bytes (length (encode_utf8_all (chars c.as_str.result.now))) (sym (ap is_too_large text_is) ∙ large))

pub returns-in_err-lines-in-Some-clause-too_large :
    goal.returns-in_err-lines-in-Some-clause-too_large
returns-in_err-lines-in-Some-clause-too_large c =
    let p = err_from_is_err_and c.from_residual-in_err-lines-in-Some.result c.from_residual-in_err-lines-in-Some.ensures.1 in
    let r = c.in-Some.range in
    let text : List ℕ = replaced c.args.self.now (position_offset (units c.args.encoding) c.args.self.now r.start) (position_offset (units c.args.encoding) c.args.self.now r.end) (chars c.as_str-in-Some.result.now) in
    let text_is : edited (units c.args.encoding) c.args.self.now c.args.edit.now ≡ text =
    edited_some (units c.args.encoding) c.args.self.now c.args.edit.now c.in-Some.range c.in-Some.is ∙ ap (λ x. replaced c.args.self.now (position_offset (units c.args.encoding) c.args.self.now r.start) (position_offset (units c.args.encoding) c.args.self.now r.end) (chars x)) (sym c.as_str-in-Some.ensures) in
    carried c.from_residual-in_err-lines-in-Some.result _ (p.1 ∙ ap Err p.2) c.in_err-lines-in-Some.ensures.too_large
    (λ more. ap is_too_large text_is ∙ larger (length (encode_utf8_all text)) more)
    (λ large. large_bytes (length (encode_utf8_all text)) (sym (ap is_too_large text_is) ∙ large))

pub returns-clause-too_large : goal.returns-clause-too_large
returns-clause-too_large c = (
  λ is. absurd (cc),
  λ large. absurd (omega (arith, large_bytes (length (encode_utf8_all _)) (ap (λ t. is_too_large t) (lines_are c).1 ∙ large), c.kept.ensures.small)),
)

pub returns-clause-ok : goal.returns-clause-ok
returns-clause-ok c =
    (c.kept.ensures.text ∙ (lines_are c).1, ap (λ t. is_too_large t) c.kept.ensures.text ∙ not_larger (length (encode_utf8_all _)) c.kept.ensures.small)
