-- A text of segments some of which are replaced, and its lines.
use Rattle.std.proofs.Common.{◌≡◌, ℕ, zero, suc, ◌+◌, ◌<◌, Bool, true, false, not, ◌||◌, List, [], ◌∷◌, ◌++◌, length, map, take, drop, min, refl, sym, ap, subst, ◌∙◌, arith, append_assoc, length-append}
use Rattle.std.specs.Prelude.{if◌then◌else◌, nat_lt}
use Rattle.std.specs.List.{list_any}
use Rattle.std.proofs.Math.Seq.{take-append_seam, drop-append_seam, drop-append-add}
use Rattle.std.proofs.lemmas.Bool.{lt-ltb, or_parts}
use Rattle.std.proofs.lemmas.List.{append-nil}
use Rattle.ls_text.specs.Lines.{lines, starts_with_lf, is_break}
use Rattle.ls_text.specs.Edits.{replaced, greater}
use Rattle.ls_text.specs.Cut.{Row, row, line_text, text_of, end_text, is_end_before, IsPlain, AreLines}
use Rattle.ls_text.specs.declared.line_end.LineEnd.{LineEnd}
use Rattle.ls_text.specs.declared.line_end.LineEnd.TheVariants.{Eof, Lf, Cr, CrLf}
use Rattle.ls_text.proofs.CutLaws.{lines_text_of}

-- a segment, and whether it is to be replaced
abbrev pub Segment : Type 0
Segment = Bool × List ℕ

abbrev pub plain : List Segment → List ℕ
plain [] = []
plain (x ∷ xs) = x.1 ++ plain xs

abbrev pub changed : List ℕ → List Segment → List ℕ
changed new [] = []
changed new (x ∷ xs) = (if x.0 then new else x.1) ++ changed new xs

-- the offsets of the segments that are to be replaced, where the first segment stands at an offset
abbrev pub spots : ℕ → List Segment → List (ℕ × ℕ)
spots start [] = []
spots start (x ∷ xs) = (if x.0 then (start, start + length x.1) ∷ [] else []) ++ spots (start + length x.1) xs

-- from the last to the first, at the offsets of the text as it was
abbrev pub put_in : List ℕ → List ℕ → List (ℕ × ℕ) → List ℕ
put_in text new [] = text
put_in text new (o ∷ os) = replaced (put_in text new os) o.0 o.1 new

greatest_by : (a n : ℕ) (b : Bool) → nat_lt a (a + n) ≡ b → (if b then a + n else a) ≡ a + n
greatest_by a n true e = refl
greatest_by a zero false e = omega arith
greatest_by a (suc n) false e = absurd (let t : nat_lt a (a + suc n) ≡ true = lt-ltb a (a + suc n) (omega arith) in cc (sym t ∙ e))

pub replaced_between : (front x back new : List ℕ) → replaced (front ++ (x ++ back)) (length front) (length front + length x) new ≡ front ++ (new ++ back)
replaced_between front x back new =
    let least : min (length front) (length front + length x) ≡ length front = omega arith in
    let most : greater (length front) (length front + length x) ≡ length front + length x = greatest_by (length front) (length x) (nat_lt (length front) (length front + length x)) refl in
    (λ i. take (least i) (front ++ (x ++ back)) ++ (new ++ drop (most i) (front ++ (x ++ back))))
    ∙ (λ i. take-append_seam front (x ++ back) i ++ (new ++ (drop-append-add front (x ++ back) (length x) ∙ drop-append_seam x back) i))

-- Replaced from the last to the first, each segment is the new one.
pub put_in_is : (front : List ℕ) (xs : List Segment) (new : List ℕ) → put_in (front ++ plain xs) new (spots (length front) xs) ≡ front ++ changed new xs
put_in_is front [] new = refl
put_in_is front (x ∷ xs) new =
    let more : put_in (front ++ (x.1 ++ plain xs)) new (spots (length front + length x.1) xs) ≡ front ++ (x.1 ++ changed new xs) =
    (λ i. put_in (sym (append_assoc front x.1 (plain xs)) i) new (spots (sym (length-append front x.1) i) xs))
    ∙ (put_in_is (front ++ x.1) xs new ∙ append_assoc front x.1 (changed new xs))
    in
    by x.0 more
  where
    by : (b : Bool) → put_in (front ++ (x.1 ++ plain xs)) new (spots (length front + length x.1) xs) ≡ front ++ (x.1 ++ changed new xs) →
        put_in (front ++ (x.1 ++ plain xs)) new ((if b then (length front, length front + length x.1) ∷ [] else []) ++ spots (length front + length x.1) xs) ≡ front ++ ((if b then new else x.1) ++ changed new xs)
    by true more = ap (λ t. replaced t (length front) (length front + length x.1) new) more ∙ replaced_between front x.1 (changed new xs) new
    by false more = more

-- ---- lines

abbrev pub RowOf : Type 0
RowOf = List Segment × LineEnd

-- a line by its segments
abbrev pub row_of : RowOf → Row
row_of r = row (plain r.0) r.1

abbrev pub rows_text : List RowOf → List ℕ
rows_text rows = text_of (map row_of rows)

abbrev pub AreRows : List RowOf → Type 0
AreRows rows = AreLines (map row_of rows)

row_texts : (rows : List RowOf) → map line_text (map row_of rows) ≡ map (λ (r : RowOf). plain r.0) rows
row_texts [] = refl
row_texts (r ∷ rows) = ap (λ l. plain r.0 ∷ l) (row_texts rows)

pub lines_rows : (rows : List RowOf) → AreRows rows → lines (rows_text rows) ≡ map (λ (r : RowOf). plain r.0) rows
lines_rows rows h = lines_text_of (map row_of rows) h ∙ row_texts rows

-- ---- lines after the change

-- a text that is put in, or in whose place one is put
pub record IsSolid (x : List ℕ) : Type 0 where
  pub some : 0 < length x
  pub no_lf : starts_with_lf x ≡ false

abbrev pub AreSolid : List Segment → Type 0
AreSolid [] = Unit {0}
AreSolid (x ∷ xs) = (x.0 ≡ true → IsSolid x.1) × AreSolid xs

start_of : (x t : List ℕ) → IsSolid x → starts_with_lf (x ++ t) ≡ false
start_of [] t h = absurd (omega (arith, h.some))
start_of (c ∷ x) t h = h.no_lf

pub start_tail : (x s t : List ℕ) → starts_with_lf s ≡ starts_with_lf t → starts_with_lf (x ++ s) ≡ starts_with_lf (x ++ t)
start_tail [] s t e = e
start_tail (c ∷ x) s t e = refl

pub end_same : (e : LineEnd) (s t : List ℕ) → starts_with_lf s ≡ starts_with_lf t → is_end_before e t ≡ true → is_end_before e s ≡ true
end_same Eof s t h e = e
end_same Lf s t h e = e
end_same Cr s t h e = ap not h ∙ e
end_same CrLf s t h e = e

module _ (new : List ℕ) (solid : IsSolid new) (new_plain : IsPlain new) where
  start_by : (b : Bool) (x s t : List ℕ) → (b ≡ true → IsSolid x) → starts_with_lf s ≡ starts_with_lf t → starts_with_lf ((if b then new else x) ++ s) ≡ starts_with_lf (x ++ t)
  start_by true x s t h e = start_of new s solid ∙ sym (start_of x t (h refl))
  start_by false x s t h e = start_tail x s t e

  start_changed : (xs : List Segment) (s t : List ℕ) → AreSolid xs → starts_with_lf s ≡ starts_with_lf t → starts_with_lf (changed new xs ++ s) ≡ starts_with_lf (plain xs ++ t)
  start_changed [] s t h e = e
  start_changed (x ∷ xs) s t h e =
      ap starts_with_lf (append_assoc (if x.0 then new else x.1) (changed new xs) s)
      ∙ (start_by x.0 x.1 (changed new xs ++ s) (plain xs ++ t) h.0 (start_changed xs s t h.1 e) ∙ ap starts_with_lf (sym (append_assoc x.1 (plain xs) t)))

  start_end : (e : LineEnd) (s t : List ℕ) → starts_with_lf s ≡ starts_with_lf t → starts_with_lf (end_text e ++ s) ≡ starts_with_lf (end_text e ++ t)
  start_end e s t h = start_tail (end_text e) s t h

  abbrev pub AreSolidRows : List RowOf → Type 0
  AreSolidRows [] = Unit {0}
  AreSolidRows (r ∷ rows) = AreSolid r.0 × AreSolidRows rows

  -- the rows with the new text, each as one segment
  abbrev pub changed_rows : List RowOf → List RowOf
  changed_rows [] = []
  changed_rows (r ∷ rows) = ((false, changed new r.0) ∷ [], r.1) ∷ changed_rows rows

  pub start_rows : (rows : List RowOf) → AreSolidRows rows → starts_with_lf (rows_text (changed_rows rows)) ≡ starts_with_lf (rows_text rows)
  start_rows [] h = refl
  start_rows (r ∷ rows) h =
      ap (λ l. starts_with_lf (l ++ (end_text r.1 ++ rows_text (changed_rows rows)))) (append-nil (changed new r.0))
      ∙ start_changed r.0 (end_text r.1 ++ rows_text (changed_rows rows)) (end_text r.1 ++ rows_text rows) h.0
      (start_end r.1 (rows_text (changed_rows rows)) (rows_text rows) (start_rows rows h.1))

  any_append : (xs ys : List ℕ) → list_any is_break (xs ++ ys) ≡ list_any is_break xs || list_any is_break ys
  any_append [] ys = refl
  any_append (x ∷ xs) ys = ap (λ b. is_break x || b) (any_append xs ys) ∙ assoc (is_break x) (list_any is_break xs) (list_any is_break ys)
    where
      assoc : (a b c : Bool) → a || (b || c) ≡ (a || b) || c
      assoc true b c = refl
      assoc false b c = refl

  plain_by : (b : Bool) (x ys : List ℕ) → IsPlain x → IsPlain ys → IsPlain ((if b then new else x) ++ ys)
  plain_by true x ys p q = any_append new ys ∙ (λ i. new_plain i || q i)
  plain_by false x ys p q = any_append x ys ∙ (λ i. p i || q i)

  plain_changed : (xs : List Segment) → IsPlain (plain xs) → IsPlain (changed new xs)
  plain_changed [] p = refl
  plain_changed (x ∷ xs) p =
      let h = or_parts (list_any is_break x.1) (list_any is_break (plain xs)) (sym (any_append x.1 (plain xs)) ∙ p) in
      plain_by x.0 x.1 (changed new xs) h.0 (plain_changed xs h.1)

  one_plain : (xs : List Segment) → IsPlain (plain xs) → IsPlain (changed new xs ++ [])
  one_plain xs p = subst IsPlain (sym (append-nil (changed new xs))) (plain_changed xs p)

  pub rows_changed : (rows : List RowOf) → AreSolidRows rows → AreRows rows → AreRows (changed_rows rows)
  rows_changed [] s h = absurd h
  rows_changed (r ∷ []) s h = (one_plain r.0 h.0, h.1)
  rows_changed (r ∷ q ∷ rows) s h =
      (one_plain r.0 h.0, end_same r.1 (rows_text (changed_rows (q ∷ rows))) (rows_text (q ∷ rows)) (start_rows (q ∷ rows) s.1) h.1, rows_changed (q ∷ rows) s.1 h.2)

  rows_lines : (rows : List RowOf) → map (λ (r : RowOf). plain r.0) (changed_rows rows) ≡ map (λ (r : RowOf). changed new r.0) rows
  rows_lines [] = refl
  rows_lines (r ∷ rows) = (λ i. append-nil (changed new r.0) i ∷ rows_lines rows i)

  -- The lines of the changed text are the lines, each changed by itself: no line end is made, lost or moved to another line.
  pub lines_changed : (rows : List RowOf) → AreSolidRows rows → AreRows rows → lines (rows_text (changed_rows rows)) ≡ map (λ (r : RowOf). changed new r.0) rows
  lines_changed rows s h = lines_rows (changed_rows rows) (rows_changed rows s h) ∙ rows_lines rows
