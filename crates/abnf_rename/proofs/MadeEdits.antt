-- The edits of a rename, made one after another on a text of rows, change its segments.
use Rattle.std.proofs.Common.{◌≡◌, ℕ, suc, ◌+◌, ◌<◌, ◌≤◌, Bool, true, false, Some, None, List, [], ◌∷◌, ◌++◌, length, map, refl, sym, ap, subst, ◌∙◌, arith, append_assoc, length-append}
use Rattle.std.specs.Prelude.{if◌then◌else◌, sum_by, IfSome}
use Rattle.std.specs.Str.{chars}
use Rattle.std.proofs.lemmas.List.{append-nil}
use Rattle.ls_text.specs.Lines.{starts_with_lf, offset_of}
use Rattle.ls_text.specs.Edits.{replaced, edited, edited_all, is_too_large}
use Rattle.ls_text.specs.Cut.{Row, row, line_text, text_of, end_text, AreLines, IsPlain, start_of, text_at}
use Rattle.ls_text.specs.declared.line_end.LineEnd.{LineEnd}
use Rattle.ls_text.specs.declared.position.Range.{Range}
use Rattle.ls_text.specs.declared.edit.Edit.{Edit}
use Rattle.ls_text.proofs.EditLaws.{edited_some}
use Rattle.ls_text.proofs.HeldLaws.{text_of_append}
use Rattle.abnf_token.specs.Classes.{Text}
use Rattle.abnf_rename.specs.Text.{renaming_edit, renaming_edits}
use Rattle.abnf_rename.proofs.RoundLaws.{offset_behind}
use Rattle.abnf_rename.proofs.SegmentLaws.{Segment, plain, changed, spots, put_in, replaced_between, RowOf, row_of, rows_text, AreRows, IsSolid, AreSolid, AreSolidRows, changed_rows, rows_changed, start_rows, start_tail, end_same}
use Rattle.abnf_rename.proofs.WholeText.{whole, put_in_whole}

-- ---- edits one after another

-- one edit more
one_behind : (w : ℕ → ℕ) (e : Edit) (es : List Edit) (t u : List ℕ) → IfSome (edited_all w t es) (λ x. x ≡ u) → IfSome (edited_all w t (es ++ e ∷ [])) (λ x. x ≡ edited w u e)
unfolding edited_all
one_behind w e [] t u h = by (is_too_large (edited w t e))
  where
    by : (b : Bool) → IfSome (if b then None else Some (edited w t e)) (λ x. x ≡ edited w u e)
    by true = tt
    by false = ap (λ x. edited w x e) h
one_behind w e (d ∷ es) t u h = by (is_too_large (edited w t d)) (one_behind w e es (edited w t d) u) h
  where
    by : (b : Bool) → (IfSome (edited_all w (edited w t d) es) (λ x. x ≡ u) → IfSome (edited_all w (edited w t d) (es ++ e ∷ [])) (λ x. x ≡ edited w u e)) →
        IfSome (if b then None else edited_all w (edited w t d) es) (λ x. x ≡ u) → IfSome (if b then None else edited_all w (edited w t d) (es ++ e ∷ [])) (λ x. x ≡ edited w u e)
    by true more h = tt
    by false more h = more h

-- the text after the edits of a rename, however large it is
abbrev made : (ℕ → ℕ) → Text → List ℕ → List Range → List ℕ
made w new t [] = t
made w new t (r ∷ rs) = edited w (made w new t rs) (renaming_edit new r)

made_all : (w : ℕ → ℕ) (new : Text) (t : List ℕ) (rs : List Range) → IfSome (edited_all w t (renaming_edits new rs)) (λ x. x ≡ made w new t rs)
unfolding edited_all
made_all w new t [] = refl
made_all w new t (r ∷ rs) = one_behind w (renaming_edit new r) (renaming_edits new rs) t (made w new t rs) (made_all w new t rs)

made_append : (w : ℕ → ℕ) (new : Text) (t : List ℕ) (rs ss : List Range) → made w new t (rs ++ ss) ≡ made w new (made w new t ss) rs
made_append w new t [] ss = refl
made_append w new t (r ∷ rs) ss = ap (λ x. edited w x (renaming_edit new r)) (made_append w new t rs ss)

-- ---- rows before others

start_behind : (bs rs : List Row) → start_of (bs ++ rs) (length bs) ≡ length (text_of bs)
start_behind [] [] = refl
start_behind [] (r ∷ rs) = refl
start_behind (b ∷ bs) rs = omega (arith, start_behind bs rs, length-append (line_text b) (end_text b.end ++ text_of bs), length-append (end_text b.end) (text_of bs))

text_behind : (bs : List Row) (r : Row) (rs : List Row) → text_at (bs ++ r ∷ rs) (length bs) ≡ line_text r
text_behind [] r rs = refl
text_behind (b ∷ bs) r rs = text_behind bs r rs

lines_behind : (bs : List Row) (r : Row) (rs : List Row) → AreLines (bs ++ r ∷ rs) → AreLines (r ∷ rs)
lines_behind [] r rs h = h
lines_behind (b ∷ []) r rs h = h.2
lines_behind (b ∷ c ∷ bs) r rs h = lines_behind (c ∷ bs) r rs h.2

start_same : (bs xs ys : List Row) → starts_with_lf (text_of xs) ≡ starts_with_lf (text_of ys) → starts_with_lf (text_of (bs ++ xs)) ≡ starts_with_lf (text_of (bs ++ ys))
start_same [] xs ys e = e
start_same (b ∷ bs) xs ys e =
    start_tail (line_text b) (end_text b.end ++ text_of (bs ++ xs)) (end_text b.end ++ text_of (bs ++ ys))
    (start_tail (end_text b.end) (text_of (bs ++ xs)) (text_of (bs ++ ys)) (start_same bs xs ys e))

-- other rows behind them
lines_swapped : (bs : List Row) (r : Row) (rs : List Row) (q : Row) (qs : List Row) → AreLines (bs ++ r ∷ rs) → AreLines (q ∷ qs) →
    starts_with_lf (text_of (q ∷ qs)) ≡ starts_with_lf (text_of (r ∷ rs)) → AreLines (bs ++ q ∷ qs)
lines_swapped [] r rs q qs h g e = g
lines_swapped (b ∷ []) r rs q qs h g e = (h.0, end_same b.end (text_of (q ∷ qs)) (text_of (r ∷ rs)) e h.1, g)
lines_swapped (b ∷ c ∷ bs) r rs q qs h g e = (
  h.0,
  end_same b.end (text_of (c ∷ bs ++ q ∷ qs)) (text_of (c ∷ bs ++ r ∷ rs)) (start_same (c ∷ bs) (q ∷ qs) (r ∷ rs) e) h.1,
  lines_swapped (c ∷ bs) r rs q qs h.2 g e,
)

-- a row whose text is in three parts
three : (bs : List Row) (e : LineEnd) (rs : List Row) (front x back : List ℕ) →
    text_of (bs ++ row (front ++ (x ++ back)) e ∷ rs) ≡ (text_of bs ++ front) ++ (x ++ (back ++ (end_text e ++ text_of rs)))
three bs e rs front x back =
    let rest = end_text e ++ text_of rs in
    text_of_append bs (row (front ++ (x ++ back)) e ∷ rs)
    ∙ (ap (λ l. text_of bs ++ l) (append_assoc front (x ++ back) rest ∙ ap (λ l. front ++ l) (append_assoc x back rest))
    ∙ sym (append_assoc (text_of bs) front (x ++ (back ++ rest))))

-- ---- the ranges of segments

-- the range in line m between what stands before its ends
abbrev pub range_between : (ℕ → ℕ) → ℕ → List ℕ → List ℕ → Range
range_between w m front more = record { start = record { line = m; character = sum_by w front }; end = record { line = m; character = sum_by w more } }

-- the ranges of the segments of line m that are to be replaced
abbrev pub line_ranges : (ℕ → ℕ) → ℕ → List ℕ → List Segment → List Range
line_ranges w m front [] = []
line_ranges w m front (x ∷ xs) = (if x.0 then range_between w m front (front ++ x.1) ∷ [] else []) ++ line_ranges w m (front ++ x.1) xs

-- the same of the rows from line m on
abbrev pub rows_ranges : (ℕ → ℕ) → ℕ → List RowOf → List Range
rows_ranges w m [] = []
rows_ranges w m (r ∷ rows) = line_ranges w m [] r.0 ++ rows_ranges w (suc m) rows

not_solid : (x : List ℕ) → false ≡ true → IsSolid x
not_solid x e = absurd (cc (e))

module _ (w : ℕ → ℕ) (some : (c : ℕ) → 1 ≤ w c) (new : Text) (solid : IsSolid (chars new)) (new_plain : IsPlain (chars new)) where
  -- an edit of one segment, whatever stands behind it
  one_made : (bs : List Row) (e : LineEnd) (rs : List Row) (front x back : List ℕ) → AreLines (bs ++ row (front ++ (x ++ back)) e ∷ rs) →
      edited w (text_of (bs ++ row (front ++ (x ++ back)) e ∷ rs)) (renaming_edit new (range_between w (length bs) front (front ++ x)))
      ≡ text_of (bs ++ row (front ++ (chars new ++ back)) e ∷ rs)
  one_made bs e rs front x back h =
      let r = row (front ++ (x ++ back)) e in
      let ls = bs ++ r ∷ rs in
      let range = range_between w (length bs) front (front ++ x) in
      let lt : length bs < length ls = omega (arith, length-append bs (r ∷ rs)) in
      let before : start_of ls (length bs) ≡ length (text_of bs) = start_behind bs (r ∷ rs) in
      let start : offset_of w (text_of ls) (length bs) (sum_by w front) ≡ length (text_of bs ++ front) =
      omega (arith, offset_behind w some ls h (length bs) lt front (x ++ back) (text_behind bs r rs), before, length-append (text_of bs) front)
      in
      let end : offset_of w (text_of ls) (length bs) (sum_by w (front ++ x)) ≡ length (text_of bs ++ front) + length x =
      omega (arith, offset_behind w some ls h (length bs) lt (front ++ x) back (text_behind bs r rs ∙ sym (append_assoc front x back)), before, length-append (text_of bs) front, length-append front x)
      in
      edited_some w (text_of ls) (renaming_edit new range) range refl
      ∙ ((λ i. replaced (three bs e rs front x back i) (start i) (end i) (chars new))
      ∙ (replaced_between (text_of bs ++ front) x (back ++ (end_text e ++ text_of rs)) (chars new) ∙ sym (three bs e rs front (chars new) back)))

  -- ---- rows after the change

  abbrev rows_after : List RowOf → List Row
  rows_after [] = []
  rows_after (r ∷ rows) = row (changed (chars new) r.0) r.1 ∷ rows_after rows

  after_is : (rows : List RowOf) → map row_of (changed_rows (chars new) solid new_plain rows) ≡ rows_after rows
  after_is [] = refl
  after_is (r ∷ rows) = (λ i. row (append-nil (changed (chars new) r.0) i) r.1 ∷ after_is rows i)

  abbrev AreSolidAll : List RowOf → Type 0
  AreSolidAll rows = AreSolidRows (chars new) solid new_plain rows

  -- the rows before are as they were, and those behind are changed
  partly : (bs : List Row) (e : LineEnd) (rest : List RowOf) (xs : List Segment) → AreSolid xs → AreSolidAll rest →
      AreLines (bs ++ row (plain xs) e ∷ map row_of rest) → AreLines (bs ++ row (changed (chars new) xs) e ∷ rows_after rest)
  partly bs e rest xs s more h =
      let rows = (xs, e) ∷ rest in
      let is = after_is rows in
      lines_swapped bs (row (plain xs) e) (map row_of rest) (row (changed (chars new) xs) e) (rows_after rest) h
      (subst AreLines is (rows_changed (chars new) solid new_plain rows (s, more) (lines_behind bs (row (plain xs) e) (map row_of rest) h)))
      (ap (λ l. starts_with_lf (text_of l)) (sym is) ∙ start_rows (chars new) solid new_plain rows (s, more))

  -- the text in which a row has these characters, and those behind it are changed
  abbrev text_with : List Row → LineEnd → List RowOf → List ℕ → List ℕ
  text_with bs e rest l = text_of (bs ++ row l e ∷ rows_after rest)

  line_made : (bs : List Row) (e : LineEnd) (rest : List RowOf) (front : List ℕ) (xs : List Segment) → AreSolid xs → AreSolidAll rest →
      AreLines (bs ++ row (front ++ plain xs) e ∷ map row_of rest) →
      made w new (text_with bs e rest (front ++ plain xs)) (line_ranges w (length bs) front xs) ≡ text_with bs e rest (front ++ changed (chars new) xs)
  line_made bs e rest front [] s more h = refl
  line_made bs e rest front (x ∷ xs) s more h =
      let next : AreLines (bs ++ row ((front ++ x.1) ++ plain xs) e ∷ map row_of rest) =
      subst (λ l. AreLines (bs ++ row l e ∷ map row_of rest)) (sym (append_assoc front x.1 (plain xs))) h
      in
      let mixed : AreLines (bs ++ row (front ++ (x.1 ++ changed (chars new) xs)) e ∷ rows_after rest) =
      partly bs e rest ((false, front) ∷ (false, x.1) ∷ xs) (not_solid front, (not_solid x.1, s.1)) more h
      in
      by x.0
      ((λ i. made w new (text_with bs e rest (sym (append_assoc front x.1 (plain xs)) i)) (line_ranges w (length bs) (front ++ x.1) xs))
      ∙ (line_made bs e rest (front ++ x.1) xs s.1 more next
      ∙ ap (text_with bs e rest) (append_assoc front x.1 (changed (chars new) xs))))
      (one_made bs e (rows_after rest) front x.1 (changed (chars new) xs) mixed)
    where
      by : (b : Bool) → made w new (text_with bs e rest (front ++ (x.1 ++ plain xs))) (line_ranges w (length bs) (front ++ x.1) xs) ≡ text_with bs e rest (front ++ (x.1 ++ changed (chars new) xs)) →
          edited w (text_with bs e rest (front ++ (x.1 ++ changed (chars new) xs))) (renaming_edit new (range_between w (length bs) front (front ++ x.1))) ≡ text_with bs e rest (front ++ (chars new ++ changed (chars new) xs)) →
          made w new (text_with bs e rest (front ++ (x.1 ++ plain xs))) ((if b then range_between w (length bs) front (front ++ x.1) ∷ [] else []) ++ line_ranges w (length bs) (front ++ x.1) xs)
          ≡ text_with bs e rest (front ++ ((if b then chars new else x.1) ++ changed (chars new) xs))
      by true behind this = ap (λ t. edited w t (renaming_edit new (range_between w (length bs) front (front ++ x.1)))) behind ∙ this
      by false behind this = behind

  rows_made : (bs : List Row) (rows : List RowOf) → AreSolidAll rows → AreLines (bs ++ map row_of rows) →
      made w new (text_of (bs ++ map row_of rows)) (rows_ranges w (length bs) rows) ≡ text_of (bs ++ rows_after rows)
  rows_made bs [] s h = refl
  rows_made bs (r ∷ rows) s h =
      let one : List Row = row_of r ∷ [] in
      let count : length (bs ++ one) ≡ suc (length bs) = omega (arith, length-append bs one) in
      let first : (bs ++ one) ++ map row_of rows ≡ bs ++ row_of r ∷ map row_of rows = append_assoc bs one (map row_of rows) in
      let last : (bs ++ one) ++ rows_after rows ≡ bs ++ row_of r ∷ rows_after rows = append_assoc bs one (rows_after rows) in
      let more : made w new (text_of (bs ++ row_of r ∷ map row_of rows)) (rows_ranges w (suc (length bs)) rows) ≡ text_of (bs ++ row_of r ∷ rows_after rows) =
      (λ i. made w new (text_of (sym first i)) (rows_ranges w (sym count i) rows))
      ∙ (rows_made (bs ++ one) rows s.1 (subst AreLines (sym first) h) ∙ ap text_of last)
      in
      made_append w new (text_of (bs ++ row_of r ∷ map row_of rows)) (line_ranges w (length bs) [] r.0) (rows_ranges w (suc (length bs)) rows)
      ∙ (ap (λ t. made w new t (line_ranges w (length bs) [] r.0)) more ∙ line_made bs r.1 rows [] r.0 s.0 s.1 h)

  -- Made one after another, the edits give what the text is by its segments.
  pub edits_made : (rows : List RowOf) → AreSolidAll rows → AreRows rows →
      IfSome (edited_all w (rows_text rows) (renaming_edits new (rows_ranges w 0 rows))) (λ t. t ≡ put_in (rows_text rows) (chars new) (spots 0 (whole rows)))
  edits_made rows s h =
      subst (λ u. IfSome (edited_all w (rows_text rows) (renaming_edits new (rows_ranges w 0 rows))) (λ t. t ≡ u))
      (rows_made [] rows s h ∙ (ap text_of (sym (after_is rows)) ∙ sym (put_in_whole (chars new) solid new_plain rows)))
      (made_all w new (rows_text rows) (rows_ranges w 0 rows))
