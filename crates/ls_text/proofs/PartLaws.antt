-- Laws of lines whose texts and marks stand in one text and one list of marks.
use Rattle.std.proofs.Common.{◌≡◌, ℕ, zero, suc, ◌-◌, ◌<◌, ◌≤◌, List, [], ◌∷◌, ◌++◌, length, take, drop, get_or, map, refl, sym, ap, subst, ◌∙◌, arith, length-append, length-drop}
use Rattle.std.specs.List.{slice_range}
use Rattle.std.specs.Str.{chars, IsUtf8, IsCharBoundary}
use Rattle.std.proofs.lemmas.List.{take-append-le, drop-append-le, take_all, length-map, map-append}
use Rattle.std.proofs.lemmas.Str.{IsUtf8-append, IsUtf8-drop, IsCharBoundary-from_drop, IsCharBoundary-at_seam, IsCharBoundary-end}
use Rattle.abnf_token.specs.declared.mark.TokenMark.{TokenMark}
use Rattle.abnf_token.specs.Marks.{AreMarks}
use Rattle.ls_text.specs.Cut.{Row, row}
use Rattle.ls_text.specs.own.Parts.{held_text, held_row, IsHeldLine, AreHeld, AreInOrder, IsPart}
use Rattle.ls_text.specs.declared.part.Held.{Held}

-- ---- a line that stands in a text still does where something follows
pub range_more : {X : Type 0} (xs ys : List X) (i j : ℕ) → i ≤ j → j ≤ length xs → slice_range (xs ++ ys) i j ≡ slice_range xs i j
range_more xs ys i j le within =
    ap (take (j - i)) (drop-append-le i xs ys (omega (arith, le, within)))
    ∙ take-append-le (j - i) (drop i xs) ys (omega (arith, le, within, length-drop i xs))

boundary_more : (bs text : List ℕ) (i : ℕ) → IsUtf8 bs → IsUtf8 text → IsCharBoundary bs i → IsCharBoundary (bs ++ text) i
boundary_more bs text i u v b =
    IsCharBoundary-from_drop (bs ++ text) i (omega (arith, b.0, length-append bs text)) (subst IsUtf8 (sym (drop-append-le i bs text b.0)) (IsUtf8-append (drop i bs) text (IsUtf8-drop bs i u b) v))

text_same : (bs text : List ℕ) (marks : List TokenMark) (h : Held) → IsHeldLine bs marks h → held_text (bs ++ text) h ≡ held_text bs h
text_same bs text marks h is = range_more bs text h.text_start h.text_end is.order is.to.0

held_more : (bs text : List ℕ) (marks : List TokenMark) (h : Held) → IsUtf8 bs → IsUtf8 text → IsHeldLine bs marks h → IsHeldLine (bs ++ text) marks h
held_more bs text marks h u v is = record {
  order = is.order;
  from = boundary_more bs text h.text_start u v is.from;
  to = boundary_more bs text h.text_end u v is.to;
  marks_order = is.marks_order;
  marks_within = is.marks_within;
  marks_are = subst (λ (t : List ℕ). AreMarks t (slice_range marks h.marks_start h.marks_end)) (sym (text_same bs text marks h is)) is.marks_are;
  count_is = is.count_is ∙ ap (λ t. length (chars t)) (sym (text_same bs text marks h is));
}

pub all_more : (bs text : List ℕ) (marks : List TokenMark) (hs : List Held) → IsUtf8 bs → IsUtf8 text → AreHeld bs marks hs → AreHeld (bs ++ text) marks hs
all_more bs text marks [] u v are = tt
all_more bs text marks (h ∷ hs) u v are = (held_more bs text marks h u v are.0, all_more bs text marks hs u v are.1)

pub rows_more : (bs text : List ℕ) (marks : List TokenMark) (hs : List Held) → AreHeld bs marks hs → map (held_row (bs ++ text)) hs ≡ map (held_row bs) hs
rows_more bs text marks [] are = refl
rows_more bs text marks (h ∷ hs) are = λ i. row (chars (text_same bs text marks h are.0 i)) h.end ∷ rows_more bs text marks hs are.1 i

pub marks_more : (bs : List ℕ) (marks more : List TokenMark) (hs : List Held) → AreHeld bs marks hs → AreHeld bs (marks ++ more) hs
marks_more bs marks more [] are = tt
marks_more bs marks more (h ∷ hs) are = (
  record {
    order = are.0.order;
    from = are.0.from;
    to = are.0.to;
    marks_order = are.0.marks_order;
    marks_within = omega (arith, are.0.marks_within, length-append marks more);
    marks_are = subst (AreMarks (held_text bs h)) (sym (range_more marks more h.marks_start h.marks_end are.0.marks_order are.0.marks_within)) are.0.marks_are;
    count_is = are.0.count_is;
  },
  marks_more bs marks more hs are.1,
)

-- ---- lines in order
pub order_within : (hs : List Held) (s k t m u n v w : ℕ) → s ≤ t → k ≤ m → u ≤ v → n ≤ w → AreInOrder t m hs u n → AreInOrder s k hs v w
order_within [] s k t m u n v w from_le from_le' to_le to_le' o =
    (omega (arith, from_le, to_le, o.0), omega (arith, from_le', to_le', o.1))
order_within (h ∷ hs) s k t m u n v w from_le from_le' to_le to_le' o =
    (omega (arith, from_le, o.0), omega (arith, from_le', o.1), order_within hs h.text_end h.marks_end h.text_end h.marks_end u n v w (omega arith) (omega arith) to_le to_le' o.2)

pub order_append : (xs ys : List Held) (t m u n v w : ℕ) → AreInOrder t m xs u n → AreInOrder u n ys v w → AreInOrder t m (xs ++ ys) v w
order_append [] ys t m u n v w o p = order_within ys t m u n v w v w o.0 o.1 (omega arith) (omega arith) p
order_append (x ∷ xs) ys t m u n v w o p = (o.0, o.1, order_append xs ys x.text_end x.marks_end u n v w o.2 p)

-- ---- more lines
pub held_append : (bs : List ℕ) (marks : List TokenMark) (xs ys : List Held) → AreHeld bs marks xs → AreHeld bs marks ys → AreHeld bs marks (xs ++ ys)
held_append bs marks [] ys are also = also
held_append bs marks (x ∷ xs) ys are also = (are.0, held_append bs marks xs ys are.1 also)

pub drop_front : {X : Type 0} (xs ys : List X) → drop (length xs) (xs ++ ys) ≡ ys
drop_front [] ys = refl
drop_front (x ∷ xs) ys = drop_front xs ys

range_behind : {X : Type 0} (xs ys : List X) (i j : ℕ) → i ≡ length xs → j ≡ length (xs ++ ys) → slice_range (xs ++ ys) i j ≡ ys
range_behind xs ys i j from to =
    (λ k. slice_range (xs ++ ys) (from k) (to k)) ∙ ap (take (length (xs ++ ys) - length xs)) (drop_front xs ys) ∙ take_all (length (xs ++ ys) - length xs) ys (omega (arith, length-append xs ys))

module _ (bs text : List ℕ) (marks more : List TokenMark) (hs : List Held) (u : IsUtf8 bs) (v : IsUtf8 text) (is : IsPart bs marks hs) (h : Held) (start_is : h.text_start ≡ length bs) (end_is : h.text_end ≡ length (bs ++ text)) (first_is : h.marks_start ≡ length marks) (last_is : h.marks_end ≡ length (marks ++ more)) (marks_are : AreMarks text more) (count_is : h.char_count ≡ length (chars text)) where
  last_text : held_text (bs ++ text) h ≡ text
  last_text = range_behind bs text h.text_start h.text_end start_is end_is

  last_marks : slice_range (marks ++ more) h.marks_start h.marks_end ≡ more
  last_marks = range_behind marks more h.marks_start h.marks_end first_is last_is

  last_held : IsHeldLine (bs ++ text) (marks ++ more) h
  last_held = record {
    order = omega (arith, start_is, end_is, length-append bs text);
    from = subst (IsCharBoundary (bs ++ text)) (sym start_is) (IsCharBoundary-at_seam (bs ++ text) bs text refl v);
    to = subst (IsCharBoundary (bs ++ text)) (sym end_is) (IsCharBoundary-end (bs ++ text));
    marks_order = omega (arith, first_is, last_is, length-append marks more);
    marks_within = omega (arith, last_is);
    marks_are = subst (AreMarks (held_text (bs ++ text) h)) (sym last_marks) (subst (λ (t : List ℕ). AreMarks t more) (sym last_text) marks_are);
    count_is = count_is ∙ ap (λ t. length (chars t)) (sym last_text);
  }

  pub part_last : IsPart (bs ++ text) (marks ++ more) (hs ++ h ∷ [])
  part_last = (
    held_append (bs ++ text) (marks ++ more) hs (h ∷ []) (marks_more (bs ++ text) marks more hs (all_more bs text marks hs u v is.0)) (last_held, tt),
    order_append hs (h ∷ []) 0 0 (length bs) (length marks) (length (bs ++ text)) (length (marks ++ more)) is.1 (
      omega (arith, start_is),
      omega (arith, first_is),
      (omega (arith, end_is), omega (arith, last_is)),
    ),
  )

  pub rows_last : map (held_row (bs ++ text)) (hs ++ h ∷ []) ≡ map (held_row bs) hs ++ row (chars text) h.end ∷ []
  rows_last = map-append (held_row (bs ++ text)) hs (h ∷ []) ∙ (λ i. rows_more bs text marks hs is.0 i ++ row (chars (last_text i)) h.end ∷ [])

-- ---- a line among them
pub held_at : (bs : List ℕ) (marks : List TokenMark) (hs : List Held) → AreHeld bs marks hs → (i : ℕ) (h : Held) → i < length hs → h ≡ get_or hs i h → IsHeldLine bs marks h
held_at bs marks [] are i h lt is = absurd (omega (arith, lt))
held_at bs marks (x ∷ hs) are zero h lt is = subst (IsHeldLine bs marks) (sym is) are.0
held_at bs marks (x ∷ hs) are (suc i) h lt is = held_at bs marks hs are.1 i h (omega (arith, lt)) is

pub held_line : (bs : List ℕ) (marks : List TokenMark) (hs : List Held) → AreHeld bs marks hs → (ls : List Row) → map (held_row bs) hs ≡ ls → (i : ℕ) → i < length ls → (h : Held) → h ≡ get_or hs i h → IsHeldLine bs marks h
held_line bs marks hs are ls ls_are i lt h is = held_at bs marks hs are i h (omega (arith, lt, ap length ls_are, length-map hs (held_row bs))) is
