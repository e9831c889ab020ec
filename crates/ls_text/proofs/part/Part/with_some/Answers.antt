use Rattle.std.proofs.Common.{◌∙◌, ◌++◌, ◌-◌, ap, sym, subst, arith, length, take, drop}
use Rattle.std.specs.Str.{IsCharBoundary}
use Rattle.std.proofs.lemmas.Str.{IsUtf8-string_bytes}
use Rattle.ls_text.proofs.CopyLaws.{first_held, last_held, some_ends, some_movable, part_copied, rows_with_copies, joined}
use Rattle.ls_text.proofs.part.Part.with_some.Goals as goal

pub piece-requires-clause-order : goal.piece-requires-clause-order
piece-requires-clause-order c =
    (some_ends _ _ _ (IsUtf8-string_bytes c.part.inside.text) c.part.invariant _ c.part.view_is _ _ c.requires.order c.if-from-to.false c.requires.within _ _ c.index-first.ensures c.index-last.ensures).0

pub piece-requires-clause-start : goal.piece-requires-clause-start
piece-requires-clause-start c =
    subst (λ bs. IsCharBoundary bs c.index-first.result.now.text_start) (sym c.as_str.ensures.value) (first_held _ _ _ (IsUtf8-string_bytes c.part.inside.text) c.part.invariant _ c.part.view_is _ _ c.requires.order c.if-from-to.false c.requires.within _ _ c.index-first.ensures c.index-last.ensures).from

pub piece-requires-clause-end : goal.piece-requires-clause-end
piece-requires-clause-end c =
    subst (λ bs. IsCharBoundary bs c.index-last.result.now.text_end) (sym c.as_str.ensures.value) (last_held _ _ _ (IsUtf8-string_bytes c.part.inside.text) c.part.invariant _ c.part.view_is _ _ c.requires.order c.if-from-to.false c.requires.within _ _ c.index-first.ensures c.index-last.ensures).to

pub between-requires-clause-order : goal.between-requires-clause-order
between-requires-clause-order c =
    (some_ends _ _ _ (IsUtf8-string_bytes c.part.inside.text) c.part.invariant _ c.part.view_is _ _ c.requires.order c.if-from-to.false c.requires.within _ _ c.index-first.ensures c.index-last.ensures).1

pub between-requires-clause-within : goal.between-requires-clause-within
between-requires-clause-within c =
    omega (arith, (last_held _ _ _ (IsUtf8-string_bytes c.part.inside.text) c.part.invariant _ c.part.view_is _ _ c.requires.order c.if-from-to.false c.requires.within _ _ c.index-first.ensures c.index-last.ensures).marks_within, ap length c.deref.ensures.value)

pub push_moved-requires : goal.push_moved-requires
push_moved-requires c =
    some_movable _ _ _ (IsUtf8-string_bytes c.part.inside.text) c.part.invariant _ c.part.view_is _ _ c.requires.order c.if-from-to.false c.requires.within _ _ c.index-first.ensures c.index-last.ensures _ _ _ _ _ (IsUtf8-string_bytes c.self.inside.text) c.self.invariant _ _ (c.in_ok-narrow.ensures.value ∙ c.len.ensures ∙ c.self.inside.text.bytes.ok.0) (c.in_ok-narrow-2.ensures.value ∙ c.len-2.ensures ∙ c.self.inside.marks.ok.0) (joined _ _ _ _ _ _ _ c.in_ok-push_str.ensures.bytes c.piece.ensures c.as_str.ensures.value) (joined _ _ _ _ _ _ _ c.in_ok-extend_from_slice.ensures.items c.between.ensures c.deref.ensures.value) _ c.deref-2.ensures.value (omega (arith, c.if-len-gt-MOST_NARROW.false, c.len-3.ensures, c.push_str.new.self.bytes.ok.0)) (omega (arith, c.if-len-gt-MOST_NARROW-2.false, c.len-else-len-gt-MOST_NARROW.ensures, c.extend_from_slice.new.self.ok.0))

pub invariant_of-result : goal.invariant_of-result
invariant_of-result c =
    part_copied _ _ _ (IsUtf8-string_bytes c.part.inside.text) c.part.invariant _ c.part.view_is _ _ c.requires.order c.if-from-to.false c.requires.within _ _ c.index-first.ensures c.index-last.ensures _ _ _ _ _ (IsUtf8-string_bytes c.self.inside.text) c.self.invariant _ _ (c.in_ok-narrow.ensures.value ∙ c.len.ensures ∙ c.self.inside.text.bytes.ok.0) (c.in_ok-narrow-2.ensures.value ∙ c.len-2.ensures ∙ c.self.inside.marks.ok.0) (joined _ _ _ _ _ _ _ c.in_ok-push_str.ensures.bytes c.piece.ensures c.as_str.ensures.value) (joined _ _ _ _ _ _ _ c.in_ok-extend_from_slice.ensures.items c.between.ensures c.deref.ensures.value) _ c.deref-2.ensures.value _ c.in_ok-push_moved.ensures

pub returns : goal.returns
returns c =
    rows_with_copies _ _ _ (IsUtf8-string_bytes c.part.inside.text) c.part.invariant _ c.part.view_is _ _ c.requires.order c.if-from-to.false c.requires.within _ _ c.index-first.ensures c.index-last.ensures _ _ _ _ _ (IsUtf8-string_bytes c.self.inside.text) c.self.invariant _ _ (c.in_ok-narrow.ensures.value ∙ c.len.ensures ∙ c.self.inside.text.bytes.ok.0) (c.in_ok-narrow-2.ensures.value ∙ c.len-2.ensures ∙ c.self.inside.marks.ok.0) (joined _ _ _ _ _ _ _ c.in_ok-push_str.ensures.bytes c.piece.ensures c.as_str.ensures.value) (joined _ _ _ _ _ _ _ c.in_ok-extend_from_slice.ensures.items c.between.ensures c.deref.ensures.value) _ c.deref-2.ensures.value _ c.in_ok-push_moved.ensures
    ∙ ap (λ z. z ++ take (c.args.to - c.args.from) (drop c.args.from c.args.part.now)) c.self.view_is
