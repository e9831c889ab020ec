-- A whole text of rows, changed from its last segment to its first.
use Rattle.std.proofs.Common.{◌≡◌, ℕ, false, List, [], ◌∷◌, ◌++◌, map, refl, sym, ap, ◌∙◌, append_assoc}
use Rattle.std.specs.Prelude.{if◌then◌else◌}
use Rattle.std.proofs.lemmas.List.{append-nil}
use Rattle.ls_text.specs.Lines.{lines}
use Rattle.ls_text.specs.Cut.{end_text, IsPlain}
use Rattle.abnf_rename.proofs.SegmentLaws.{Segment, plain, changed, spots, put_in, put_in_is, RowOf, rows_text, AreRows, IsSolid, AreSolidRows, changed_rows, lines_changed}

-- the segments of the whole text, line ends among them
abbrev pub whole : List RowOf → List Segment
whole [] = []
whole (r ∷ rows) = r.0 ++ ((false, end_text r.1) ∷ whole rows)

plain_parts : (xs ys : List Segment) → plain (xs ++ ys) ≡ plain xs ++ plain ys
plain_parts [] ys = refl
plain_parts (x ∷ xs) ys = ap (λ l. x.1 ++ l) (plain_parts xs ys) ∙ sym (append_assoc x.1 (plain xs) (plain ys))

changed_parts : (new : List ℕ) (xs ys : List Segment) → changed new (xs ++ ys) ≡ changed new xs ++ changed new ys
changed_parts new [] ys = refl
changed_parts new (x ∷ xs) ys =
    ap (λ l. (if x.0 then new else x.1) ++ l) (changed_parts new xs ys) ∙ sym (append_assoc (if x.0 then new else x.1) (changed new xs) (changed new ys))

pub plain_whole : (rows : List RowOf) → plain (whole rows) ≡ rows_text rows
plain_whole [] = refl
plain_whole (r ∷ rows) = plain_parts r.0 ((false, end_text r.1) ∷ whole rows) ∙ ap (λ l. plain r.0 ++ (end_text r.1 ++ l)) (plain_whole rows)

module _ (new : List ℕ) (solid : IsSolid new) (new_plain : IsPlain new) where
  changed_whole : (rows : List RowOf) → changed new (whole rows) ≡ rows_text (changed_rows new solid new_plain rows)
  changed_whole [] = refl
  changed_whole (r ∷ rows) =
      changed_parts new r.0 ((false, end_text r.1) ∷ whole rows)
      ∙ (λ i. sym (append-nil (changed new r.0)) i ++ (end_text r.1 ++ changed_whole rows i))

  -- A text of rows that is changed from its last segment to its first is that of the changed rows.
  pub put_in_whole : (rows : List RowOf) → put_in (rows_text rows) new (spots 0 (whole rows)) ≡ rows_text (changed_rows new solid new_plain rows)
  put_in_whole rows = ap (λ t. put_in t new (spots 0 (whole rows))) (sym (plain_whole rows)) ∙ (put_in_is [] (whole rows) new ∙ changed_whole rows)

  -- The lines of a text that is changed from its last segment to its first are its lines, each changed by itself.
  pub edited_lines : (rows : List RowOf) → AreSolidRows new solid new_plain rows → AreRows rows →
      lines (put_in (rows_text rows) new (spots 0 (whole rows))) ≡ map (λ (r : RowOf). changed new r.0) rows
  edited_lines rows s h = ap lines (put_in_whole rows) ∙ lines_changed new solid new_plain rows s h
