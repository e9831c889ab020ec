use Rattle.std.proofs.Common.{◌∙◌, List, ℕ, ap, sym, subst, arith, length}
use Rattle.std.specs.List.{slice_range}
use Rattle.std.specs.Str.{chars, IsCharBoundary}
use Rattle.abnf_token.specs.Marks.{AreMarks}
use Rattle.ls_text.proofs.PartLaws.{held_line}
use Rattle.ls_text.proofs.part.Part.line.Goals as goal

pub piece-text-requires-clause-order : goal.piece-text-requires-clause-order
piece-text-requires-clause-order c =
    (held_line _ _ _ c.self.invariant.0 _ c.self.view_is _ c.requires _ c.index-held.ensures).order

pub piece-text-requires-clause-start : goal.piece-text-requires-clause-start
piece-text-requires-clause-start c =
    subst (λ bs. IsCharBoundary bs c.index-held.result.now.text_start) (sym c.as_str.ensures.value) (held_line _ _ _ c.self.invariant.0 _ c.self.view_is _ c.requires _ c.index-held.ensures).from

pub piece-text-requires-clause-end : goal.piece-text-requires-clause-end
piece-text-requires-clause-end c =
    subst (λ bs. IsCharBoundary bs c.index-held.result.now.text_end) (sym c.as_str.ensures.value) (held_line _ _ _ c.self.invariant.0 _ c.self.view_is _ c.requires _ c.index-held.ensures).to

pub between-marks-requires-clause-order : goal.between-marks-requires-clause-order
between-marks-requires-clause-order c =
    (held_line _ _ _ c.self.invariant.0 _ c.self.view_is _ c.requires _ c.index-held.ensures).marks_order

pub between-marks-requires-clause-within : goal.between-marks-requires-clause-within
between-marks-requires-clause-within c =
    omega (arith, (held_line _ _ _ c.self.invariant.0 _ c.self.view_is _ c.requires _ c.index-held.ensures).marks_within, ap length c.deref.ensures.value)

pub of-requires-clause-count : goal.of-requires-clause-count
of-requires-clause-count c =
    (held_line _ _ _ c.self.invariant.0 _ c.self.view_is _ c.requires _ c.index-held.ensures).count_is
    ∙ ap (λ t. length (chars t)) (sym (c.piece-text.ensures ∙ ap (λ bs. slice_range bs c.index-held.result.now.text_start c.index-held.result.now.text_end) c.as_str.ensures.value))

pub of-requires-clause-marks : goal.of-requires-clause-marks
of-requires-clause-marks c =
    let held = held_line _ _ _ c.self.invariant.0 _ c.self.view_is _ c.requires _ c.index-held.ensures in
    let text_is = c.piece-text.ensures ∙ ap (λ bs. slice_range bs c.index-held.result.now.text_start c.index-held.result.now.text_end) c.as_str.ensures.value in
    let marks_are = c.between-marks.ensures ∙ ap (λ ms. slice_range ms c.index-held.result.now.marks_start c.index-held.result.now.marks_end) c.deref.ensures.value in
    subst (AreMarks c.piece-text.result.now) (sym marks_are) (subst (λ (t : List ℕ). AreMarks t (slice_range c.self.inside.marks.items c.index-held.result.now.marks_start c.index-held.result.now.marks_end)) (sym text_is) held.marks_are)
