use Rattle.std.proofs.Common.{◌≡◌, ◌∙◌, sym, ap, rules}
use Rattle.std.specs.List.{slice_range}
use Rattle.std.proofs.lemmas.Str.{IsUtf8-string_bytes}
use Rattle.ls_text.proofs.AlikeLaws.{same_some, some_behind, some_first}
use Rattle.ls_text.proofs.part.Part.are_same.Goals as goal

pub piece-ours-requires-clause-order : goal.piece-ours-requires-clause-order
piece-ours-requires-clause-order c =
    (some_first _ _ _ (IsUtf8-string_bytes c.self.inside.text) c.self.invariant _ c.self.view_is _ _ c.if-count-eq0.false c.requires.ours _ _ c.index-first.ensures c.index-last.ensures _ c.as_str.ensures.value).0

pub piece-ours-requires-clause-start : goal.piece-ours-requires-clause-start
piece-ours-requires-clause-start c =
    (some_first _ _ _ (IsUtf8-string_bytes c.self.inside.text) c.self.invariant _ c.self.view_is _ _ c.if-count-eq0.false c.requires.ours _ _ c.index-first.ensures c.index-last.ensures _ c.as_str.ensures.value).1

pub piece-ours-requires-clause-end : goal.piece-ours-requires-clause-end
piece-ours-requires-clause-end c =
    (some_first _ _ _ (IsUtf8-string_bytes c.self.inside.text) c.self.invariant _ c.self.view_is _ _ c.if-count-eq0.false c.requires.ours _ _ c.index-first.ensures c.index-last.ensures _ c.as_str.ensures.value).2

pub piece-theirs-requires-clause-order : goal.piece-theirs-requires-clause-order
piece-theirs-requires-clause-order c =
    (some_first _ _ _ (IsUtf8-string_bytes c.other.inside.text) c.other.invariant _ c.other.view_is _ _ c.if-count-eq0.false c.requires.theirs _ _ c.index-other_first.ensures c.index-other_last.ensures _ c.as_str-2.ensures.value).0

pub piece-theirs-requires-clause-start : goal.piece-theirs-requires-clause-start
piece-theirs-requires-clause-start c =
    (some_first _ _ _ (IsUtf8-string_bytes c.other.inside.text) c.other.invariant _ c.other.view_is _ _ c.if-count-eq0.false c.requires.theirs _ _ c.index-other_first.ensures c.index-other_last.ensures _ c.as_str-2.ensures.value).1

pub piece-theirs-requires-clause-end : goal.piece-theirs-requires-clause-end
piece-theirs-requires-clause-end c =
    (some_first _ _ _ (IsUtf8-string_bytes c.other.inside.text) c.other.invariant _ c.other.view_is _ _ c.if-count-eq0.false c.requires.theirs _ _ c.index-other_first.ensures c.index-other_last.ensures _ c.as_str-2.ensures.value).2

pub are_alike-requires-clause-ours : goal.are_alike-requires-clause-ours
are_alike-requires-clause-ours c =
    some_behind _ _ _ (IsUtf8-string_bytes c.self.inside.text) c.self.invariant _ c.self.view_is _ _ c.if-count-eq0.false c.requires.ours _ _ c.index-first.ensures c.index-last.ensures _ c.deref.ensures.value

pub are_alike-requires-clause-theirs : goal.are_alike-requires-clause-theirs
are_alike-requires-clause-theirs c =
    some_behind _ _ _ (IsUtf8-string_bytes c.other.inside.text) c.other.invariant _ c.other.view_is _ _ c.if-count-eq0.false c.requires.theirs _ _ c.index-other_first.ensures c.index-other_last.ensures _ c.deref-then-eq.ensures.value

pub returns-then-eq : goal.returns-then-eq
returns-then-eq c = λ t.
    let first = c.index-first.result.now in
    let last = c.index-last.result.now in
    let first' = c.index-other_first.result.now in
    let last' = c.index-other_last.result.now in
    let texts : c.piece-ours.result.now ≡ c.piece-theirs.result.now = search rules in
    same_some _ _ _ _ _ _ (IsUtf8-string_bytes c.self.inside.text) (IsUtf8-string_bytes c.other.inside.text) c.self.invariant c.other.invariant _ _ c.self.view_is c.other.view_is _ _ _ c.if-count-eq0.false c.requires.ours c.requires.theirs _ _ _ _ c.index-first.ensures c.index-last.ensures c.index-other_first.ensures c.index-other_last.ensures
    (sym (c.piece-ours.ensures ∙ ap (λ z. slice_range z first.text_start last.text_end) c.as_str.ensures.value) ∙ texts ∙ c.piece-theirs.ensures ∙ ap (λ z. slice_range z first'.text_start last'.text_end) c.as_str-2.ensures.value)
    _ _ c.deref.ensures.value c.deref-then-eq.ensures.value (c.are_alike.ensures t)
