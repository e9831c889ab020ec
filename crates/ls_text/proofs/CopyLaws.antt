-- Laws of lines that stand one behind another, and of copies of some of them.
use Rattle.std.proofs.Common.{◌≡◌, ℕ, zero, suc, ◌+◌, ◌-◌, ◌<◌, ◌≤◌, ◌^◌, List, [], ◌∷◌, ◌++◌, length, take, drop, get_or, map, refl, sym, ap, subst, ◌∙◌, arith, get_or-drop, length-append, length-drop, length-take-le}
use Rattle.std.specs.List.{slice_range, All}
use Rattle.std.specs.Str.{chars, IsUtf8, IsCharBoundary}
use Rattle.std.proofs.lemmas.List.{drop-drop, drop-take, take-take, take-map, map-append, length-map}
use Rattle.std.proofs.lemmas.List.Elements.{All-nil, All-cons}
use Rattle.std.proofs.lemmas.Str.{IsUtf8-between, IsCharBoundary-from_drop}
use Rattle.abnf_token.specs.declared.mark.TokenMark.{TokenMark}
use Rattle.abnf_token.specs.Marks.{AreMarks}
use Rattle.ls_text.specs.Cut.{Row, row}
use Rattle.ls_text.specs.own.Parts.{held_text, held_row, IsHeldLine, AreHeld, AreInOrder, IsPart, moved, IsMovable}
use Rattle.ls_text.specs.declared.part.Held.{Held}
use Rattle.ls_text.specs.declared.part.Shift.{Shift}
use Rattle.ls_text.proofs.PartLaws.{drop_front, held_at, all_more, marks_more, rows_more, held_append, order_append, order_within}

-- ---- lines in order
pub order_ends : (bs : List ℕ) (marks : List TokenMark) (hs : List Held) (t m u n : ℕ) → AreHeld bs marks hs → AreInOrder t m hs u n → (t ≤ u) × (m ≤ n)
order_ends bs marks [] t m u n are o = o
order_ends bs marks (h ∷ hs) t m u n are o =
    let rest = order_ends bs marks hs h.text_end h.marks_end u n are.1 o.2 in
    (omega (arith, o.0, are.0.order, rest.0), omega (arith, o.1, are.0.marks_order, rest.1))

order_from : (hs : List Held) (t m u n i : ℕ) (h : Held) → i < length hs → h ≡ get_or hs i h → AreInOrder t m hs u n → AreInOrder h.text_start h.marks_start (drop i hs) u n
order_from [] t m u n i h lt is o = absurd (omega (arith, lt))
order_from (x ∷ hs) t m u n zero h lt is o =
    (omega (arith, ap (λ (z : Held). z.text_start) is), omega (arith, ap (λ (z : Held). z.marks_start) is), o.2)
order_from (x ∷ hs) t m u n (suc i) h lt is o = order_from hs x.text_end x.marks_end u n i h (omega (arith, lt)) is o.2

order_up_to : (hs : List Held) (t m u n i : ℕ) (h : Held) → i < length hs → h ≡ get_or hs i h → AreInOrder t m hs u n → AreInOrder t m (take (suc i) hs) h.text_end h.marks_end
order_up_to [] t m u n i h lt is o = absurd (omega (arith, lt))
order_up_to (x ∷ hs) t m u n zero h lt is o =
    (o.0, o.1, (omega (arith, ap (λ (z : Held). z.text_end) is), omega (arith, ap (λ (z : Held). z.marks_end) is)))
order_up_to (x ∷ hs) t m u n (suc i) h lt is o =
    (o.0, o.1, order_up_to hs x.text_end x.marks_end u n i h (omega (arith, lt)) is o.2)

-- ---- some of the lines
held_from : (bs : List ℕ) (marks : List TokenMark) (hs : List Held) (i : ℕ) → AreHeld bs marks hs → AreHeld bs marks (drop i hs)
held_from bs marks hs zero are = are
held_from bs marks [] (suc i) are = tt
held_from bs marks (h ∷ hs) (suc i) are = held_from bs marks hs i are.1

held_up_to : (bs : List ℕ) (marks : List TokenMark) (hs : List Held) (i : ℕ) → AreHeld bs marks hs → AreHeld bs marks (take i hs)
held_up_to bs marks hs zero are = tt
held_up_to bs marks [] (suc i) are = tt
held_up_to bs marks (h ∷ hs) (suc i) are = (are.0, held_up_to bs marks hs i are.1)

map-drop : (f : Held → Row) (i : ℕ) (hs : List Held) → map f (drop i hs) ≡ drop i (map f hs)
map-drop f zero hs = refl
map-drop f (suc i) [] = refl
map-drop f (suc i) (h ∷ hs) = map-drop f i hs

-- ---- a piece of a list, put behind another
module _ {X : Type 0} (xs ys : List X) (n a b : ℕ) (n_is : n ≡ length xs) where
  drop_copied : (i : ℕ) → a ≤ i → i ≤ b → drop (n + (i - a)) (xs ++ slice_range ys a b) ≡ slice_range ys i b
  drop_copied i le le' =
      let parts : b - a ≡ (i - a) + (b - i) = omega (arith, le, le') in
      let place : a + (i - a) ≡ i = omega (arith, le) in
      ap (λ k. drop (k + (i - a)) (xs ++ slice_range ys a b)) n_is
      ∙ sym (drop-drop (i - a) (length xs) (xs ++ slice_range ys a b))
      ∙ ap (drop (i - a)) (drop_front xs (slice_range ys a b))
      ∙ ap (λ k. drop (i - a) (take k (drop a ys))) parts
      ∙ drop-take (i - a) (b - i) (drop a ys)
      ∙ ap (take (b - i)) (drop-drop (i - a) a ys ∙ ap (λ k. drop k ys) place)

  pub range_copied : (i j : ℕ) → a ≤ i → i ≤ j → j ≤ b → slice_range (xs ++ slice_range ys a b) (n + (i - a)) (n + (j - a)) ≡ slice_range ys i j
  range_copied i j le le' le'' =
      let size : (n + (j - a)) - (n + (i - a)) ≡ j - i = omega (arith, le, le', le'') in
      (λ k. take (size k) (drop_copied i le (omega (arith, le', le'')) k)) ∙ take-take (j - i) (b - i) (drop i ys) (omega (arith, le', le''))

  copied_within : (i : ℕ) → a ≤ i → i ≤ b → b ≤ length ys → n + (i - a) ≤ length (xs ++ slice_range ys a b)
  copied_within i le le' within =
      omega (arith, le, le', within, n_is, length-append xs (slice_range ys a b), length-take-le (b - a) (drop a ys) (omega (arith, within, le, le', length-drop a ys)), length-drop a ys)

boundary_copied : (bs ps : List ℕ) (n a b i : ℕ) → n ≡ length bs → a ≤ i → i ≤ b → IsUtf8 ps → IsCharBoundary ps i → IsCharBoundary ps b → IsCharBoundary (bs ++ slice_range ps a b) (n + (i - a))
boundary_copied bs ps n a b i n_is le le' u from to =
    IsCharBoundary-from_drop (bs ++ slice_range ps a b) (n + (i - a)) (copied_within bs ps n a b n_is i le le' to.0) (subst IsUtf8 (sym (drop_copied bs ps n a b n_is i le le')) (IsUtf8-between ps i b u le' from to))

pub joined : {X : Type 0} (new old part source ys : List X) (i j : ℕ) → new ≡ old ++ part → part ≡ slice_range source i j → source ≡ ys → new ≡ old ++ slice_range ys i j
joined new old part source ys i j new_is part_is source_is = new_is ∙ ap (λ z. old ++ z) (part_is ∙ ap (λ z. slice_range z i j) source_is)

-- ---- copies of lines
module _ (s : Shift) where
  order_moved : (hs : List Held) (t m u n : ℕ) → AreInOrder t m hs u n → AreInOrder (s.text_to + (t - s.text_from)) (s.marks_to + (m - s.marks_from)) (map (moved s) hs) (s.text_to + (u - s.text_from)) (s.marks_to + (n - s.marks_from))
  order_moved [] t m u n o = (omega (arith, o.0), omega (arith, o.1))
  order_moved (h ∷ hs) t m u n o = (omega (arith, o.0), omega (arith, o.1), order_moved hs h.text_end h.marks_end u n o.2)

  pub all_movable : (bs : List ℕ) (marks : List TokenMark) (hs : List Held) (t m u n : ℕ) → s.text_from ≤ t → s.marks_from ≤ m → s.text_to + (u - s.text_from) < 2 ^ 32 → s.marks_to + (n - s.marks_from) < 2 ^ 32 → AreHeld bs marks hs → AreInOrder t m hs u n → All (IsMovable s) hs
  all_movable bs marks [] t m u n le le' fits fits' are o = All-nil (IsMovable s)
  all_movable bs marks (h ∷ hs) t m u n le le' fits fits' are o =
      let ends = order_ends bs marks hs h.text_end h.marks_end u n are.1 o.2 in
      All-cons (IsMovable s) h hs (
      record {
        text_from = omega (arith, le, o.0);
        text_order = are.0.order;
        text_fits = omega (arith, ends.0, fits);
        marks_from = omega (arith, le', o.1);
        marks_order = are.0.marks_order;
        marks_fits = omega (arith, ends.1, fits');
      }
      ) (all_movable bs marks hs h.text_end h.marks_end u n (omega (arith, le, o.0, are.0.order)) (omega (arith, le', o.1, are.0.marks_order)) fits fits' are.1 o.2)

module _ (bs ps : List ℕ) (marks qs : List TokenMark) (s : Shift) (b d : ℕ) (text_is : s.text_to ≡ length bs) (marks_is : s.marks_to ≡ length marks) (u : IsUtf8 ps) (to : IsCharBoundary ps b) (within : d ≤ length qs) where
  abbrev bytes_of : List ℕ
  bytes_of = bs ++ slice_range ps s.text_from b

  abbrev marks_of : List TokenMark
  marks_of = marks ++ slice_range qs s.marks_from d

  module _ (h : Held) (is : IsHeldLine ps qs h) (from_le : s.text_from ≤ h.text_start) (to_le : h.text_end ≤ b) (marks_from_le : s.marks_from ≤ h.marks_start) (marks_to_le : h.marks_end ≤ d) where
    text_copied : held_text bytes_of (moved s h) ≡ held_text ps h
    text_copied = range_copied bs ps s.text_to s.text_from b text_is h.text_start h.text_end from_le is.order to_le

    marks_copied : slice_range marks_of (moved s h).marks_start (moved s h).marks_end ≡ slice_range qs h.marks_start h.marks_end
    marks_copied = range_copied marks qs s.marks_to s.marks_from d marks_is h.marks_start h.marks_end marks_from_le is.marks_order marks_to_le

    line_copied : IsHeldLine bytes_of marks_of (moved s h)
    line_copied = record {
      order = omega (arith, is.order);
      from = boundary_copied bs ps s.text_to s.text_from b h.text_start text_is from_le (omega (arith, is.order, to_le)) u is.from to;
      to = boundary_copied bs ps s.text_to s.text_from b h.text_end text_is (omega (arith, is.order, from_le)) to_le u is.to to;
      marks_order = omega (arith, is.marks_order);
      marks_within = copied_within marks qs s.marks_to s.marks_from d marks_is h.marks_end (omega (arith, is.marks_order, marks_from_le)) marks_to_le within;
      marks_are = subst (AreMarks (held_text bytes_of (moved s h))) (sym marks_copied) (subst (λ (t : List ℕ). AreMarks t (slice_range qs h.marks_start h.marks_end)) (sym text_copied) is.marks_are);
      count_is = is.count_is ∙ ap (λ t. length (chars t)) (sym text_copied);
    }

  all_copied : (hs : List Held) (t m : ℕ) → s.text_from ≤ t → s.marks_from ≤ m → AreHeld ps qs hs → AreInOrder t m hs b d → AreHeld bytes_of marks_of (map (moved s) hs)
  all_copied [] t m le le' are o = tt
  all_copied (h ∷ hs) t m le le' are o =
      let ends = order_ends ps qs hs h.text_end h.marks_end b d are.1 o.2 in (
        line_copied h are.0 (omega (arith, le, o.0)) ends.0 (omega (arith, le', o.1)) ends.1,
        all_copied hs h.text_end h.marks_end (omega (arith, le, o.0, are.0.order)) (omega (arith, le', o.1, are.0.marks_order)) are.1 o.2,
      )

  rows_copied : (hs : List Held) (t m : ℕ) → s.text_from ≤ t → s.marks_from ≤ m → AreHeld ps qs hs → AreInOrder t m hs b d → map (held_row bytes_of) (map (moved s) hs) ≡ map (held_row ps) hs
  rows_copied [] t m le le' are o = refl
  rows_copied (h ∷ hs) t m le le' are o =
      let ends = order_ends ps qs hs h.text_end h.marks_end b d are.1 o.2 in
      λ i. row (chars (text_copied h are.0 (omega (arith, le, o.0)) ends.0 (omega (arith, le', o.1)) ends.1 i)) h.end ∷ rows_copied hs h.text_end h.marks_end (omega (arith, le, o.0, are.0.order)) (omega (arith, le', o.1, are.0.marks_order)) are.1 o.2 i

-- ---- a part with copies of some lines of another, from one up to another
module _ (ps : List ℕ) (qs : List TokenMark) (ks : List Held) (v : IsUtf8 ps) (other : IsPart ps qs ks) (ls : List Row) (ls_are : map (held_row ps) ks ≡ ls) (from to : ℕ) (le : from ≤ to) (ne : from ≡ to → ⊥) (within : to ≤ length ls) (first last : Held) (first_is : first ≡ get_or ks from first) (last_is : last ≡ get_or ks (to - 1) last) where
  lt : from < to
  lt = omega (arith, le, ne)

  lines_within : to ≤ length ks
  lines_within = omega (arith, within, ap length ls_are, length-map ks (held_row ps))

  pub first_held : IsHeldLine ps qs first
  first_held = held_at ps qs ks other.0 from first (omega (arith, lt, lines_within)) first_is

  pub last_held : IsHeldLine ps qs last
  last_held = held_at ps qs ks other.0 (to - 1) last (omega (arith, lt, lines_within)) last_is

  pub some_held : AreHeld ps qs (slice_range ks from to)
  some_held = held_up_to ps qs (drop from ks) (to - from) (held_from ps qs ks from other.0)

  pub some_order : AreInOrder first.text_start first.marks_start (slice_range ks from to) last.text_end last.marks_end
  some_order =
      let size : suc (to - 1 - from) ≡ to - from = omega (arith, lt) in
      let place : from + (to - 1 - from) ≡ to - 1 = omega (arith, lt) in
      let is : last ≡ get_or (drop from ks) (to - 1 - from) last = last_is ∙ ap (λ k. get_or ks k last) (sym place) ∙ sym (get_or-drop from ks (to - 1 - from) last) in
      subst (λ k. AreInOrder first.text_start first.marks_start (take k (drop from ks)) last.text_end last.marks_end) size (order_up_to (drop from ks) first.text_start first.marks_start (length ps) (length qs) (to - 1 - from) last (omega (arith, lt, lines_within, length-drop from ks)) is (order_from ks 0 0 (length ps) (length qs) from first (omega (arith, lt, lines_within)) first_is other.1))

  pub some_ends : (first.text_start ≤ last.text_end) × (first.marks_start ≤ last.marks_end)
  some_ends = order_ends ps qs (slice_range ks from to) first.text_start first.marks_start last.text_end last.marks_end some_held some_order

  module _ (bs new : List ℕ) (marks new_marks : List TokenMark) (hs : List Held) (u : IsUtf8 bs) (is : IsPart bs marks hs) (text_to marks_to : ℕ) (text_is : text_to ≡ length bs) (marks_is : marks_to ≡ length marks) (new_is : new ≡ bs ++ slice_range ps first.text_start last.text_end) (new_marks_are : new_marks ≡ marks ++ slice_range qs first.marks_start last.marks_end) (source : List Held) (source_is : source ≡ ks) where
    abbrev text : List ℕ
    text = slice_range ps first.text_start last.text_end

    abbrev more : List TokenMark
    more = slice_range qs first.marks_start last.marks_end

    abbrev shift : Shift
    shift = record {
      text_from = first.text_start;
      text_to = text_to;
      marks_from = first.marks_start;
      marks_to = marks_to;
    }

    abbrev copies : List Held
    copies = map (moved shift) (slice_range ks from to)

    text_within : text_to + (last.text_end - first.text_start) ≤ length (bs ++ text)
    text_within = copied_within bs ps text_to first.text_start last.text_end text_is last.text_end some_ends.0 (omega arith) last_held.to.0

    marks_within : marks_to + (last.marks_end - first.marks_start) ≤ length (marks ++ more)
    marks_within = copied_within marks qs marks_to first.marks_start last.marks_end marks_is last.marks_end some_ends.1 (omega arith) last_held.marks_within

    pub some_movable : length new < 2 ^ 32 → length new_marks < 2 ^ 32 → All (IsMovable shift) (slice_range source from to)
    some_movable fits fits' =
        subst (λ z. All (IsMovable shift) (slice_range z from to)) (sym source_is) (all_movable shift ps qs (slice_range ks from to) first.text_start first.marks_start last.text_end last.marks_end (omega arith) (omega arith) (omega (arith, text_within, ap length new_is, fits)) (omega (arith, marks_within, ap length new_marks_are, fits')) some_held some_order)

    text_utf8 : IsUtf8 text
    text_utf8 = IsUtf8-between ps first.text_start last.text_end v some_ends.0 first_held.from last_held.to

    copies_held : AreHeld (bs ++ text) (marks ++ more) (hs ++ copies)
    copies_held =
        held_append (bs ++ text) (marks ++ more) hs copies (marks_more (bs ++ text) marks more hs (all_more bs text marks hs u text_utf8 is.0)) (all_copied bs ps marks qs shift last.text_end last.marks_end text_is marks_is v last_held.to last_held.marks_within (slice_range ks from to) first.text_start first.marks_start (omega arith) (omega arith) some_held some_order)

    copies_order : AreInOrder 0 0 (hs ++ copies) (length (bs ++ text)) (length (marks ++ more))
    copies_order =
        let moves = order_moved shift (slice_range ks from to) first.text_start first.marks_start last.text_end last.marks_end some_order in
        order_append hs copies 0 0 (length bs) (length marks) (length (bs ++ text)) (length (marks ++ more)) is.1 (order_within copies (length bs) (length marks) _ _ _ _ (length (bs ++ text)) (length (marks ++ more)) (omega (arith, text_is)) (omega (arith, marks_is)) text_within marks_within moves)

    copies_are : (lines : List Held) → lines ≡ hs ++ map (moved shift) (slice_range source from to) → lines ≡ hs ++ copies
    copies_are lines lines_are = lines_are ∙ ap (λ z. hs ++ map (moved shift) (slice_range z from to)) source_is

    pub part_copied : (lines : List Held) → lines ≡ hs ++ map (moved shift) (slice_range source from to) → IsPart new new_marks lines
    part_copied lines lines_are =
        subst (λ z. IsPart new new_marks z) (sym (copies_are lines lines_are)) (subst (λ z. IsPart new z (hs ++ copies)) (sym new_marks_are) (subst (λ z. IsPart z (marks ++ more) (hs ++ copies)) (sym new_is) (copies_held, copies_order)))

    pub rows_with_copies : (lines : List Held) → lines ≡ hs ++ map (moved shift) (slice_range source from to) → map (held_row new) lines ≡ map (held_row bs) hs ++ take (to - from) (drop from ls)
    rows_with_copies lines lines_are =
        (λ i. map (held_row (new_is i)) (copies_are lines lines_are i)) ∙ map-append (held_row (bs ++ text)) hs copies
        ∙ (λ i. rows_more bs text marks hs is.0 i ++ rows_copied bs ps marks qs shift last.text_end last.marks_end text_is marks_is v last_held.to last_held.marks_within (slice_range ks from to) first.text_start first.marks_start (omega arith) (omega arith) some_held some_order i)
        ∙ ap (λ z. map (held_row bs) hs ++ z) (sym (take-map (held_row ps) (to - from) (drop from ks)) ∙ ap (take (to - from)) (map-drop (held_row ps) from ks ∙ ap (drop from) ls_are))
