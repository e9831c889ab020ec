-- Laws of lines that are the same in two lists, at their front and at their back.
use Rattle.std.proofs.Common.{◌≡◌, ℕ, suc, ◌+◌, ◌-◌, ◌<◌, ◌≤◌, List, [], ◌∷◌, ◌++◌, length, take, drop, get_or, map, refl, sym, ap, subst, ◌∙◌, arith, length-append, length-drop, length-take-le, take-append-drop, drop-cons}
use Rattle.std.specs.List.{slice_range, All, flat_map}
use Rattle.std.specs.Str.{chars, IsUtf8, IsCharBoundary}
use Rattle.std.proofs.Math.Seq.{take-append_seam}
use Rattle.std.proofs.lemmas.List.{drop-drop, take_all, take-map, drop-map, length-map, get_or_read}
use Rattle.std.proofs.lemmas.List.Elements.{All-nil, All-cons}
use Rattle.abnf_token.specs.declared.mark.TokenMark.{TokenMark}
use Rattle.ls_text.specs.Lines.{lines, line_ends}
use Rattle.ls_text.specs.Cut.{Row, row, line_text, text_of, AreLines}
use Rattle.ls_text.specs.own.Alike.{IsSameFront, IsSameBack}
use Rattle.ls_text.specs.own.Parts.{held_text, held_row, AreHeld, AreInOrder, IsPart, IsBehind, IsAlike, AreAlike}
use Rattle.ls_text.specs.declared.part.Held.{Held}
use Rattle.ls_text.proofs.CutLaws.{lines_text_of, line_ends_text_of}
use Rattle.ls_text.proofs.ChunkLaws.{take_in, drop_in, take_join, pieces_at, pieces_next, pieces_split}
use Rattle.ls_text.proofs.PartLaws.{drop_front}
use Rattle.ls_text.proofs.CopyLaws.{range_copied, order_ends, first_held, last_held, some_held, some_order, some_ends}

-- ---- more at the front
pub front_more : {X : Type 0} (xs ys : List X) (low middle : ℕ) → low ≤ middle → middle ≤ length xs → middle ≤ length ys → IsSameFront xs ys low → take (middle - low) (drop low xs) ≡ take (middle - low) (drop low ys) → IsSameFront xs ys middle
front_more xs ys low middle le ours theirs so_far more = record {
  ours = ours;
  theirs = theirs;
  same = sym (take_join xs low middle le) ∙ (λ i. so_far.same i ++ more i) ∙ take_join ys low middle le;
}

pub front_whole : {X : Type 0} (xs ys : List X) (n : ℕ) → length xs ≤ n → length ys ≤ n → IsSameFront xs ys n → xs ≡ ys
front_whole xs ys n ours theirs is = sym (take_all n xs ours) ∙ is.same ∙ take_all n ys theirs

-- ---- more at the back
back_split : {X : Type 0} (xs : List X) (low middle : ℕ) → low ≤ middle → middle ≤ length xs → drop (length xs - middle) xs ≡ take (middle - low) (drop (length xs - middle) xs) ++ drop (length xs - low) xs
back_split xs low middle le within =
    let sum : (length xs - middle) + (middle - low) ≡ length xs - low = omega (arith, le, within) in
    sym (take-append-drop (middle - low) (drop (length xs - middle) xs))
    ∙ ap (λ z. take (middle - low) (drop (length xs - middle) xs) ++ z) (drop-drop (middle - low) (length xs - middle) xs ∙ ap (λ k. drop k xs) sum)

pub back_more : {X : Type 0} (xs ys : List X) (n m low middle : ℕ) → n ≡ length xs → m ≡ length ys → low ≤ middle → middle ≤ n → middle ≤ m → IsSameBack xs ys low → take (middle - low) (drop (n - middle) xs) ≡ take (middle - low) (drop (m - middle) ys) → IsSameBack xs ys middle
back_more xs ys n m low middle n_is m_is le ours theirs so_far more =
    let within : middle ≤ length xs = omega (arith, ours, n_is) in
    let within' : middle ≤ length ys = omega (arith, theirs, m_is) in
    let pieces : take (middle - low) (drop (length xs - middle) xs) ≡ take (middle - low) (drop (length ys - middle) ys) =
    ap (λ k. take (middle - low) (drop (k - middle) xs)) (sym n_is) ∙ more ∙ ap (λ k. take (middle - low) (drop (k - middle) ys)) m_is in
    record {
      ours = within;
      theirs = within';
      same = back_split xs low middle le within ∙ (λ i. pieces i ++ so_far.same i) ∙ sym (back_split ys low middle le within');
    }

pub back_whole : {X : Type 0} (xs ys : List X) (n : ℕ) → length xs ≤ n → length ys ≤ n → IsSameBack xs ys n → xs ≡ ys
back_whole xs ys n ours theirs is =
    let none : length xs - n ≡ 0 = omega (arith, ours) in
    let none' : length ys - n ≡ 0 = omega (arith, theirs) in
    ap (λ k. drop k xs) (sym none) ∙ is.same ∙ ap (λ k. drop k ys) none'

-- ---- between other parts of the lists
pub front_join : {X : Type 0} (p q v w r s : List X) (count same : ℕ) → p ≡ q → count ≡ length p → IsSameFront v w same → IsSameFront (p ++ (v ++ r)) (q ++ (w ++ s)) (count + same)
front_join p q v w r s count same fronts count_is is = record {
  ours = omega (arith, count_is, is.ours, length-append p (v ++ r), length-append v r);
  theirs = omega (arith, count_is, ap length fronts, is.theirs, length-append q (w ++ s), length-append w s);
  same = ap (λ k. take (k + same) (p ++ (v ++ r))) count_is ∙ take_in p v r same is.ours ∙ (λ i. fronts i ++ is.same i) ∙ sym (take_in q w s same is.theirs) ∙ ap (λ k. take (k + same) (q ++ (w ++ s))) (sym (count_is ∙ ap length fronts));
}

pub back_join : {X : Type 0} (r s v w p q : List X) (count same : ℕ) → p ≡ q → count ≡ length p → IsSameBack v w same → IsSameBack (r ++ (v ++ p)) (s ++ (w ++ q)) (count + same)
back_join r s v w p q count same backs count_is is =
    let place : length (r ++ (v ++ p)) - (count + same) ≡ length r + (length v - same) = omega (arith, count_is, is.ours, length-append r (v ++ p), length-append v p) in
    let place' : length (s ++ (w ++ q)) - (count + same) ≡ length s + (length w - same) = omega (arith, count_is, ap length backs, is.theirs, length-append s (w ++ q), length-append w q) in
    record {
      ours = omega (arith, count_is, is.ours, length-append r (v ++ p), length-append v p);
      theirs = omega (arith, count_is, ap length backs, is.theirs, length-append s (w ++ q), length-append w q);
      same = ap (λ k. drop k (r ++ (v ++ p))) place ∙ drop_in r v p (length v - same) (omega arith) ∙ (λ i. is.same i ++ backs i) ∙ sym (drop_in s w q (length w - same) (omega arith)) ∙ ap (λ k. drop k (s ++ (w ++ q))) (sym place');
    }

-- ---- chunks
module _ {X : Type 0} (value : X → List Row) (cs ds : List X) where
  -- the chunks so far are the same
  pub front_end : (i count : ℕ) → flat_map value (take i cs) ≡ flat_map value (take i ds) → count ≡ length (flat_map value (take i cs)) → IsSameFront (flat_map value cs) (flat_map value ds) count
  front_end i count same count_is =
      let count_is' : count ≡ length (flat_map value (take i ds)) = count_is ∙ ap length same in
      let all = pieces_split value cs i in
      let all' = pieces_split value ds i in
      record {
        ours = omega (arith, count_is, ap length all, length-append (flat_map value (take i cs)) (flat_map value (drop i cs)));
        theirs = omega (arith, count_is', ap length all', length-append (flat_map value (take i ds)) (flat_map value (drop i ds)));
        same = (λ k. take (count_is k) (sym all k)) ∙ take-append_seam (flat_map value (take i cs)) (flat_map value (drop i cs)) ∙ same ∙ sym (take-append_seam (flat_map value (take i ds)) (flat_map value (drop i ds))) ∙ (λ k. take (sym count_is' k) (all' k));
      }

  pub back_end : (k l count : ℕ) → flat_map value (drop k cs) ≡ flat_map value (drop l ds) → count ≡ length (flat_map value (drop k cs)) → IsSameBack (flat_map value cs) (flat_map value ds) count
  back_end k l count same count_is =
      let count_is' : count ≡ length (flat_map value (drop l ds)) = count_is ∙ ap length same in
      let all = pieces_split value cs k in
      let all' = pieces_split value ds l in
      let place : length (flat_map value cs) - count ≡ length (flat_map value (take k cs)) = omega (arith, count_is, ap length all, length-append (flat_map value (take k cs)) (flat_map value (drop k cs))) in
      let place' : length (flat_map value ds) - count ≡ length (flat_map value (take l ds)) = omega (arith, count_is', ap length all', length-append (flat_map value (take l ds)) (flat_map value (drop l ds))) in
      record {
        ours = omega (arith, count_is, ap length all, length-append (flat_map value (take k cs)) (flat_map value (drop k cs)));
        theirs = omega (arith, count_is', ap length all', length-append (flat_map value (take l ds)) (flat_map value (drop l ds)));
        same = (λ j. drop (place j) (sym all j)) ∙ drop_front (flat_map value (take k cs)) (flat_map value (drop k cs)) ∙ same ∙ sym (drop_front (flat_map value (take l ds)) (flat_map value (drop l ds))) ∙ (λ j. drop (sym place' j) (all' j));
      }

  -- the lines of a chunk and of those after it
  pieces_from : (es : List X) (k : ℕ) (x : X) → k < length es → x ≡ get_or es k x → flat_map value (drop k es) ≡ value x ++ flat_map value (drop (k + 1) es)
  pieces_from es k x lt is =
      let more : suc k ≡ k + 1 = omega arith in
      ap (flat_map value) (drop-cons es k x lt ∙ (λ i. sym is i ∷ drop (more i) es))

  -- two chunks, and what is the same of them
  module _ (i j : ℕ) (c d : X) (c_lt : i < length cs) (d_lt : j < length ds) (c_is : c ≡ get_or cs i c) (d_is : d ≡ get_or ds j d) (v w : List Row) (v_is : v ≡ value c) (w_is : w ≡ value d) (count same : ℕ) where
    pub front_found : i ≡ j → flat_map value (take i cs) ≡ flat_map value (take i ds) → count ≡ length (flat_map value (take i cs)) → IsSameFront v w same → IsSameFront (flat_map value cs) (flat_map value ds) (count + same)
    front_found places before count_is is =
        subst (λ z. IsSameFront z (flat_map value ds) (count + same)) (sym (pieces_at value cs i c c_lt c_is))
        (subst (λ z. IsSameFront (flat_map value (take i cs) ++ (value c ++ flat_map value (drop (i + 1) cs))) z (count + same)) (sym (pieces_at value ds j d d_lt d_is))
        (front_join (flat_map value (take i cs)) (flat_map value (take j ds)) (value c) (value d) (flat_map value (drop (i + 1) cs)) (flat_map value (drop (j + 1) ds)) count same (before ∙ ap (λ k. flat_map value (take k ds)) places) count_is
        (subst (λ z. IsSameFront (value c) z same) w_is (subst (λ z. IsSameFront z w same) v_is is))))

    pub front_next : i ≡ j → flat_map value (take i cs) ≡ flat_map value (take i ds) → IsSameFront v w same → length v ≤ same → length w ≤ same → flat_map value (take (i + 1) cs) ≡ flat_map value (take (i + 1) ds)
    front_next places before is ours theirs =
        pieces_next value cs i c c_lt c_is ∙ (λ k. (before ∙ ap (λ k. flat_map value (take k ds)) places) k ++ (sym v_is ∙ front_whole v w same ours theirs is ∙ w_is) k)
        ∙ sym (pieces_next value ds j d d_lt d_is) ∙ ap (λ k. flat_map value (take (k + 1) ds)) (sym places)

    pub front_count : count ≡ length (flat_map value (take i cs)) → same ≡ length v → count + same ≡ length (flat_map value (take (i + 1) cs))
    front_count count_is same_is = omega (arith, count_is, same_is, ap length v_is, ap length (pieces_next value cs i c c_lt c_is), length-append (flat_map value (take i cs)) (value c))

    -- they come before those that are passed already
    module _ (k l : ℕ) (k_is : i + 1 ≡ k) (l_is : j + 1 ≡ l) (passed : flat_map value (drop k cs) ≡ flat_map value (drop l ds)) (count_is : count ≡ length (flat_map value (drop k cs))) where
      after : flat_map value (drop (i + 1) cs) ≡ flat_map value (drop (j + 1) ds)
      after = ap (λ n. flat_map value (drop n cs)) k_is ∙ passed ∙ ap (λ n. flat_map value (drop n ds)) (sym l_is)

      after_count : count ≡ length (flat_map value (drop (i + 1) cs))
      after_count = count_is ∙ ap (λ n. length (flat_map value (drop n cs))) (sym k_is)

      pub back_found : IsSameBack v w same → IsSameBack (flat_map value cs) (flat_map value ds) (count + same)
      back_found is =
          subst (λ z. IsSameBack z (flat_map value ds) (count + same)) (sym (pieces_at value cs i c c_lt c_is))
          (subst (λ z. IsSameBack (flat_map value (take i cs) ++ (value c ++ flat_map value (drop (i + 1) cs))) z (count + same)) (sym (pieces_at value ds j d d_lt d_is))
          (back_join (flat_map value (take i cs)) (flat_map value (take j ds)) (value c) (value d) (flat_map value (drop (i + 1) cs)) (flat_map value (drop (j + 1) ds)) count same after after_count
          (subst (λ z. IsSameBack (value c) z same) w_is (subst (λ z. IsSameBack z w same) v_is is))))

      pub back_next : IsSameBack v w same → length v ≤ same → length w ≤ same → (m n : ℕ) → i ≡ m → j ≡ n → flat_map value (drop m cs) ≡ flat_map value (drop n ds)
      back_next is ours theirs m n m_is n_is =
          ap (λ x. flat_map value (drop x cs)) (sym m_is) ∙ pieces_from cs i c c_lt c_is ∙ (λ x. (sym v_is ∙ back_whole v w same ours theirs is ∙ w_is) x ++ after x)
          ∙ sym (pieces_from ds j d d_lt d_is) ∙ ap (λ x. flat_map value (drop x ds)) n_is

      pub back_count : same ≡ length v → (m : ℕ) → i ≡ m → count + same ≡ length (flat_map value (drop m cs))
      back_count same_is m m_is =
          omega (arith, after_count, same_is, ap length v_is, ap length (pieces_from cs i c c_lt c_is), length-append (value c) (flat_map value (drop (i + 1) cs)), ap (λ x. length (flat_map value (drop x cs))) m_is)

-- ---- lines that stand alike
pub all_behind : (bs : List ℕ) (marks : List TokenMark) (hs : List Held) (place t m u n : ℕ) → place ≤ t → AreHeld bs marks hs → AreInOrder t m hs u n → All (IsBehind place) hs
all_behind bs marks [] place t m u n le are o = All-nil (IsBehind place)
all_behind bs marks (h ∷ hs) place t m u n le are o =
    All-cons (IsBehind place) h hs (record { from = omega (arith, le, o.0); order = are.0.order }) (all_behind bs marks hs place h.text_end h.marks_end u n (omega (arith, le, o.0, are.0.order)) are.1 o.2)

pub alike_here : (hs ks : List Held) (i place there : ℕ) (d e : Held) → i < length hs → i < length ks → IsAlike place there (get_or hs i d) (get_or ks i e) → (h k : Held) → h ≡ get_or hs i h → k ≡ get_or ks i k → IsAlike place there h k
alike_here hs ks i place there d e lt lt' is h k h_is k_is =
    subst (λ z. IsAlike place there h z) (sym (get_or_read ks i k lt' k_is e)) (subst (λ z. IsAlike place there z (get_or ks i e)) (sym (get_or_read hs i h lt h_is d)) is)

module _ (bs cs : List ℕ) (marks qs : List TokenMark) (s u t v : ℕ) (texts : slice_range bs s u ≡ slice_range cs t v) where
  text_alike : (h k : Held) → IsAlike s t h k → s ≤ h.text_start → h.text_start ≤ h.text_end → h.text_end ≤ u → t ≤ k.text_start → k.text_start ≤ k.text_end → k.text_end ≤ v → held_text bs h ≡ held_text cs k
  text_alike h k is h_from h_order h_to k_from k_order k_to =
      sym (range_copied [] bs 0 s u refl h.text_start h.text_end h_from h_order h_to)
      ∙ (λ i. slice_range (texts i) (0 + is.text_start i) (0 + is.text_end i))
      ∙ range_copied [] cs 0 t v refl k.text_start k.text_end k_from k_order k_to

  rows_alike : (hs ks : List Held) (a m n b l o : ℕ) → s ≤ a → AreHeld bs marks hs → AreInOrder a m hs u n → t ≤ b → AreHeld cs qs ks → AreInOrder b l ks v o → length hs ≡ length ks → AreAlike s t hs ks (length hs) → map (held_row bs) hs ≡ map (held_row cs) ks
  rows_alike [] [] a m n b l o le are order le' are' order' count alike = refl
  rows_alike [] (k ∷ ks) a m n b l o le are order le' are' order' count alike = absurd (omega (arith, count))
  rows_alike (h ∷ hs) [] a m n b l o le are order le' are' order' count alike = absurd (omega (arith, count))
  rows_alike (h ∷ hs) (k ∷ ks) a m n b l o le are order le' are' order' count alike =
      let ends = order_ends bs marks hs h.text_end h.marks_end u n are.1 order.2 in
      let ends' = order_ends cs qs ks k.text_end k.marks_end v o are'.1 order'.2 in
      let is = alike 0 (omega arith) h k refl refl in
      let text : held_text bs h ≡ held_text cs k = text_alike h k is (omega (arith, le, order.0)) are.0.order ends.0 (omega (arith, le', order'.0)) are'.0.order ends'.0 in
      let rest = rows_alike hs ks h.text_end h.marks_end n k.text_end k.marks_end o (omega (arith, le, order.0, are.0.order)) are.1 order.2 (omega (arith, le', order'.0, are'.0.order)) are'.1 order'.2 (omega (arith, count)) (λ i lt x y x_is y_is. alike (suc i) (omega (arith, lt)) x y x_is y_is) in
      λ i. row (chars (text i)) (is.end i) ∷ rest i

-- the lines that some hold are some of the lines
pub rows_of_some : (bs : List ℕ) (hs : List Held) (ls : List Row) → map (held_row bs) hs ≡ ls → (from count : ℕ) → map (held_row bs) (take count (drop from hs)) ≡ take count (drop from ls)
rows_of_some bs hs ls ls_are from count =
    sym (take-map (held_row bs) count (drop from hs)) ∙ ap (take count) (sym (drop-map (held_row bs) from hs)) ∙ ap (λ z. take count (drop from z)) ls_are

-- ---- some lines of two parts whose texts are the same in one piece
module _ (bs cs : List ℕ) (marks qs : List TokenMark) (hs ks : List Held) (v : IsUtf8 bs) (w : IsUtf8 cs) (part : IsPart bs marks hs) (other : IsPart cs qs ks) (ls ms : List Row) (ls_are : map (held_row bs) hs ≡ ls) (ms_are : map (held_row cs) ks ≡ ms) (from there count : ℕ) (some : count ≡ 0 → ⊥) (ours : from + count ≤ length ls) (theirs : there + count ≤ length ms) (first last first' last' : Held) (first_is : first ≡ get_or hs from first) (last_is : last ≡ get_or hs (from + count - 1) last) (first_is' : first' ≡ get_or ks there first') (last_is' : last' ≡ get_or ks (there + count - 1) last') where
  count_of : (n : ℕ) → n + count - n ≡ count
  count_of n = omega arith

  pub same_some : slice_range bs first.text_start last.text_end ≡ slice_range cs first'.text_start last'.text_end → (xs ys : List Held) → xs ≡ hs → ys ≡ ks → AreAlike first.text_start first'.text_start (slice_range xs from (from + count)) (slice_range ys there (there + count)) (length (slice_range xs from (from + count))) → take count (drop from ls) ≡ take count (drop there ms)
  same_some texts xs ys xs_are ys_are alike =
      let le : from ≤ from + count = omega arith in
      let le' : there ≤ there + count = omega arith in
      let ne : from ≡ from + count → ⊥ = λ e. some (omega (arith, e)) in
      let ne' : there ≡ there + count → ⊥ = λ e. some (omega (arith, e)) in
      let alike' : AreAlike first.text_start first'.text_start (slice_range hs from (from + count)) (slice_range ks there (there + count)) (length (slice_range hs from (from + count))) =
      subst (λ z. AreAlike first.text_start first'.text_start (slice_range hs from (from + count)) (slice_range z there (there + count)) (length (slice_range hs from (from + count)))) ys_are
      (subst (λ z. AreAlike first.text_start first'.text_start (slice_range z from (from + count)) (slice_range ys there (there + count)) (length (slice_range z from (from + count)))) xs_are alike) in
      let counts : length (slice_range hs from (from + count)) ≡ length (slice_range ks there (there + count)) =
      length_of bs hs ls ls_are from ours ∙ sym (length_of cs ks ms ms_are there theirs) in
      let rows = rows_alike bs cs marks qs first.text_start last.text_end first'.text_start last'.text_end texts (slice_range hs from (from + count)) (slice_range ks there (there + count)) first.text_start first.marks_start last.marks_end first'.text_start first'.marks_start last'.marks_end (omega arith)
      (some_held bs marks hs v part ls ls_are from (from + count) le ne ours first last first_is last_is)
      (some_order bs marks hs v part ls ls_are from (from + count) le ne ours first last first_is last_is)
      (omega arith)
      (some_held cs qs ks w other ms ms_are there (there + count) le' ne' theirs first' last' first_is' last_is')
      (some_order cs qs ks w other ms ms_are there (there + count) le' ne' theirs first' last' first_is' last_is')
      counts alike' in
      sym (rows_of_some bs hs ls ls_are from count) ∙ ap (λ n. map (held_row bs) (take n (drop from hs))) (sym (count_of from)) ∙ rows
      ∙ ap (λ n. map (held_row cs) (take n (drop there ks))) (count_of there) ∙ rows_of_some cs ks ms ms_are there count
    where
      length_of : (ts : List ℕ) (xs : List Held) (rows : List Row) → map (held_row ts) xs ≡ rows → (n : ℕ) → n + count ≤ length rows → length (slice_range xs n (n + count)) ≡ count
      length_of ts xs rows are n within =
          let sizes : length xs ≡ length rows = sym (length-map xs (held_row ts)) ∙ ap length are in
          ap (λ k. length (take k (drop n xs))) (count_of n) ∙ length-take-le count (drop n xs) (omega (arith, within, sizes, length-drop n xs))

-- each of the lines stands behind the first
pub some_behind : (bs : List ℕ) (marks : List TokenMark) (hs : List Held) (v : IsUtf8 bs) (part : IsPart bs marks hs) (ls : List Row) (ls_are : map (held_row bs) hs ≡ ls) (from count : ℕ) → (count ≡ 0 → ⊥) → from + count ≤ length ls → (first last : Held) → first ≡ get_or hs from first → last ≡ get_or hs (from + count - 1) last → (xs : List Held) → xs ≡ hs → All (IsBehind first.text_start) (slice_range xs from (from + count))
some_behind bs marks hs v part ls ls_are from count some within first last first_is last_is xs xs_are =
    let le : from ≤ from + count = omega arith in
    let ne : from ≡ from + count → ⊥ = λ e. some (omega (arith, e)) in
    subst (λ z. All (IsBehind first.text_start) (slice_range z from (from + count))) (sym xs_are)
    (all_behind bs marks (slice_range hs from (from + count)) first.text_start first.text_start first.marks_start last.text_end last.marks_end (omega arith)
    (some_held bs marks hs v part ls ls_are from (from + count) le ne within first last first_is last_is)
    (some_order bs marks hs v part ls ls_are from (from + count) le ne within first last first_is last_is))

-- the first is held, and the last, and the one comes before the other
pub some_first : (bs : List ℕ) (marks : List TokenMark) (hs : List Held) (v : IsUtf8 bs) (part : IsPart bs marks hs) (ls : List Row) (ls_are : map (held_row bs) hs ≡ ls) (from count : ℕ) → (count ≡ 0 → ⊥) → from + count ≤ length ls → (first last : Held) → first ≡ get_or hs from first → last ≡ get_or hs (from + count - 1) last → (text : List ℕ) → text ≡ bs → (first.text_start ≤ last.text_end) × IsCharBoundary text first.text_start × IsCharBoundary text last.text_end
some_first bs marks hs v part ls ls_are from count some within first last first_is last_is text text_is =
    let le : from ≤ from + count = omega arith in
    let ne : from ≡ from + count → ⊥ = λ e. some (omega (arith, e)) in (
      (some_ends bs marks hs v part ls ls_are from (from + count) le ne within first last first_is last_is).0,
      subst (λ z. IsCharBoundary z first.text_start) (sym text_is) (first_held bs marks hs v part ls ls_are from (from + count) le ne within first last first_is last_is).from,
      subst (λ z. IsCharBoundary z last.text_end) (sym text_is) (last_held bs marks hs v part ls ls_are from (from + count) le ne within first last first_is last_is).to,
    )

-- ---- the lines of two texts
module _ (ls ms : List Row) (t u : List ℕ) (h : AreLines ls) (k : AreLines ms) (t_is : text_of ls ≡ t) (u_is : text_of ms ≡ u) (n : ℕ) where
  lines_are : (xs : List Row) (s : List ℕ) → AreLines xs → text_of xs ≡ s → lines s ≡ map line_text xs
  lines_are xs s are is = ap lines (sym is) ∙ lines_text_of xs are

  count_is : (xs : List Row) (s : List ℕ) → AreLines xs → text_of xs ≡ s → length xs ≡ line_ends s + 1
  count_is xs s are is = sym (line_ends_text_of xs are) ∙ ap (λ z. line_ends z + 1) is

  pub text_within : n ≤ length ls → n ≤ length ms → (n ≤ line_ends t + 1) × (n ≤ line_ends u + 1)
  text_within ours theirs = (omega (arith, ours, count_is ls t h t_is), omega (arith, theirs, count_is ms u k u_is))

  pub text_front : IsSameFront ls ms n → take n (lines t) ≡ take n (lines u)
  text_front is =
      ap (take n) (lines_are ls t h t_is) ∙ take-map line_text n ls ∙ ap (map line_text) is.same
      ∙ sym (take-map line_text n ms) ∙ ap (take n) (sym (lines_are ms u k u_is))

  pub text_back : IsSameBack ls ms n → drop (line_ends t + 1 - n) (lines t) ≡ drop (line_ends u + 1 - n) (lines u)
  text_back is =
      (λ i. drop (sym (count_is ls t h t_is) i - n) (lines_are ls t h t_is i)) ∙ drop-map line_text (length ls - n) ls ∙ ap (map line_text) is.same
      ∙ sym (drop-map line_text (length ms - n) ms) ∙ (λ i. drop (count_is ms u k u_is i - n) (sym (lines_are ms u k u_is) i))
