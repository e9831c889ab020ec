-- A queue over a row and a heap.
use Rattle.std.proofs.Common.{◌≡◌, ◌+◌, ◌-◌, ◌<◌, ◌⊎◌, inl, inr, ⊎_elim, true, false, List, [], ◌∷◌, ◌++◌, Option, Some, None, Result, Ok, Err, option_to_list, length, get_or, refl, sym, ap, ◌∙◌, subst, arith, length-append}
use Rattle.std.specs.Prelude.{IfSome, OnOk}
use Rattle.std.proofs.lemmas.Bool.{cases_Bool, cases_lt}
use Rattle.std.proofs.lemmas.List.{get_or_append_left, get_or_push, get_or_default}
use Rattle.std.proofs.lemmas.List.Elements.{Contains-append_cases, All-from_recursion, All-contains}
use Rattle.std.proofs.lemmas.List.Sorted.{IsPermutation-refl, IsPermutation-sym, IsPermutation-trans, IsPermutation-to_front, IsPermutation-middle, IsPermutation-append_left, IsPermutation-append_right}
use Rattle.std.specs.List.{Contains, AllByRecursion}
use Rattle.std.specs.Ordering.{is_lt}
use Rattle.std.specs.declared.cmp.Reverse.{Reverse}
use Rattle.abnf_least.specs.declared.candidate.Candidate.{Candidate}
use Rattle.abnf_least.specs.own.Order.{candidate_cmp}
use Rattle.abnf_least.specs.own.Queue.{ComesLast, IsFirstCandidate, IsInOrder, JoinsQueue, LeavesQueue, NotAfter, comes_before}
use Rattle.abnf_least.proofs.Choice.{before_false, before_true}
use Rattle.abnf_least.proofs.Queued.{all_mapped, candidates}

-- ---- pairs

same_pair : (x : Candidate) → NotAfter x x
same_pair x = inr (refl, omega arith)

after_both : (x y z : Candidate) → NotAfter x y → NotAfter y z → NotAfter x z
after_both x y z p q =
    ⊎_elim
    (λ a. inl (⊎_elim (λ b. omega arith) (λ b. let e = b.0 in omega arith) q))
    (λ a. ⊎_elim (λ b. inl (let e = a.0 in omega arith)) (λ b. inr (a.0 ∙ b.0, let e = a.1 in let f = b.1 in omega arith)) q)
    p

not_before : (x y : Candidate) → NotAfter y x → comes_before x y ≡ false
not_before x y p =
    ⊎_elim
    (λ t. absurd (⊎_elim
    (λ a. ⊎_elim (λ b. omega arith) (λ b. let e = b.0 in omega arith) p)
    (λ a. ⊎_elim (λ b. let e = a.0 in omega arith) (λ b. let e = a.1 in let f = b.1 in omega arith) p)
    (before_true x.length x.height y.length y.height t)))
    (λ f. f)
    (cases_Bool (comes_before x y))

-- ---- a row

pub row_first : (row : List Candidate) (x : Candidate) → IsInOrder row → 0 < length row → x ≡ get_or row 0 x → IsFirstCandidate row x
row_first row x ordered some is = (
  (0, some, sym is),
  λ y here.
      ⊎_elim
      (λ first. let zero_is : here.0 ≡ 0 = omega arith in subst (NotAfter x) (is ∙ (get_or_default row 0 x y some ∙ (ap (λ i. get_or row i y) (sym zero_is) ∙ here.2))) (same_pair x))
      (λ later.
      let placed = ordered 0 here.0 y later here.1 in
      let before : comes_before y x ≡ false = subst (λ z. comes_before y z ≡ false) (get_or_default row 0 y x some ∙ sym is) (subst (λ z. comes_before z (get_or row 0 y) ≡ false) here.2 placed) in
      before_false y.length y.height x.length x.height before)
      (cases_lt here.0 1),
)

-- the last of a row comes after none that is not before it
pub row_last : (row : List Candidate) (c last : Candidate) → IsInOrder row → last ≡ get_or row (length row - 1) last → comes_before c last ≡ false → ComesLast row c
row_last row c last ordered is later y here =
    let some : 0 < length row = let w = here.1 in omega arith in
    let at_last : NotAfter last c = before_false c.length c.height last.length last.height later in
    ⊎_elim
    (λ below.
    let placed = ordered here.0 (length row - 1) y below (omega arith) in
    let before : comes_before last y ≡ false = subst (λ z. comes_before z y ≡ false) (get_or_default row (length row - 1) y last (omega arith) ∙ sym is) (subst (λ z. comes_before (get_or row (length row - 1) y) z ≡ false) here.2 placed) in
    after_both y last c (before_false last.length last.height y.length y.height before) at_last)
    (λ above.
    let place : here.0 ≡ length row - 1 = let w = here.1 in omega arith in
    subst (λ z. NotAfter z c) (is ∙ (get_or_default row (length row - 1) last y (omega arith) ∙ (ap (λ i. get_or row i y) (sym place) ∙ here.2))) at_last)
    (cases_lt here.0 (length row - 1))

-- and what comes before none isn't before the last
pub row_ends : (row : List Candidate) (c last : Candidate) → 0 < length row → last ≡ get_or row (length row - 1) last → ComesLast row c → comes_before c last ≡ false
row_ends row c last some is ends = not_before c last (ends last (length row - 1, omega arith, sym is))

pub empty_row : (row : List Candidate) (c : Candidate) → row ≡ [] → ComesLast row c
empty_row row c none y here = let n = ap length none in let w = here.1 in absurd (omega (arith, n, w))

pub row_joins : (row new : List Candidate) (c : Candidate) → new ≡ row ++ c ∷ [] → JoinsQueue row c new
row_joins row new c is = subst (λ all. JoinsQueue row c all) (sym is) (IsPermutation-sym (row ++ c ∷ []) (c ∷ row) (IsPermutation-to_front row c))

pub row_more : (row new : List Candidate) (c : Candidate) → IsInOrder row → ComesLast row c → new ≡ row ++ c ∷ [] → IsInOrder new
row_more row new c ordered last is =
    subst IsInOrder (sym is)
    (λ i j d less within.
    let long : length (row ++ c ∷ []) ≡ length row + 1 = length-append row (c ∷ []) in
    ⊎_elim
    (λ inside.
    subst (λ z. comes_before z (get_or (row ++ c ∷ []) i d) ≡ false) (sym (get_or_append_left row (c ∷ []) d j inside))
    (subst (λ z. comes_before (get_or row j d) z ≡ false) (sym (get_or_append_left row (c ∷ []) d i (omega arith))) (ordered i j d less inside)))
    (λ end.
    let place : j ≡ length row = omega arith in
    subst (λ z. comes_before z (get_or (row ++ c ∷ []) i d) ≡ false) (sym (ap (λ k. get_or (row ++ c ∷ []) k d) place ∙ get_or_push row c d (length row) refl))
    (subst (λ z. comes_before c z ≡ false) (sym (get_or_append_left row (c ∷ []) d i (omega arith)))
    (not_before c (get_or row i d) (last (get_or row i d) (i, omega arith, get_or_default row i (get_or row i d) d (omega arith))))))
    (cases_lt j (length row)))

pub row_left : (old new : List Candidate) (o : Option Candidate) → IsInOrder old → old ≡ option_to_list o ++ new → IfSome o (λ x. LeavesQueue old x new)
row_left old new None ordered is = tt
row_left old new (Some x) ordered is =
    subst (λ row. LeavesQueue row x new) (sym is)
    (record {
      others = IsPermutation-refl (x ∷ new);
      least = (row_first (x ∷ new) x (subst IsInOrder is ordered) (omega arith) refl).1;
    })

-- ---- a heap

pub heap_first : (items : List (Reverse Candidate)) (r : Reverse Candidate) → 0 < length items → r ≡ get_or items 0 r → AllByRecursion (λ y. is_lt (candidate_cmp y.0 r.0) ≡ false) items → IsFirstCandidate (candidates items) r.0
heap_first [] r some is upper = absurd (omega arith)
heap_first (s ∷ items) r some is upper = (
  (0, omega arith, sym (ap (λ (x : Reverse Candidate). x.0) is)),
  λ y here. All-contains (NotAfter r.0) (candidates (s ∷ items)) y (All-from_recursion (NotAfter r.0) (candidates (s ∷ items)) (all_mapped r.0 (s ∷ items) upper)) here,
)

-- ---- both

pub joins_row : {E : Type 0} (result : Result (Unit {0}) E) (whole row new heap : List Candidate) (x : Candidate) → row ++ heap ≡ whole → OnOk result (JoinsQueue row x new) → OnOk result (JoinsQueue whole x (new ++ heap))
joins_row (Err e) whole row new heap x is j = tt
joins_row (Ok u) whole row new heap x is j =
    subst (λ all. JoinsQueue all x (new ++ heap)) is (IsPermutation-append_left heap (x ∷ row) new j)

pub joins_heap : {E : Type 0} (result : Result (Unit {0}) E) (whole row heap new : List Candidate) (x : Candidate) → row ++ heap ≡ whole → OnOk result (JoinsQueue heap x new) → OnOk result (JoinsQueue whole x (row ++ new))
joins_heap (Err e) whole row heap new x is j = tt
joins_heap (Ok u) whole row heap new x is j =
    subst (λ all. JoinsQueue all x (row ++ new)) is
    (IsPermutation-trans (x ∷ (row ++ heap)) (row ++ x ∷ heap) (row ++ new)
    (IsPermutation-sym (row ++ x ∷ heap) (x ∷ (row ++ heap)) (IsPermutation-middle row x heap))
    (IsPermutation-append_right row (x ∷ heap) new j))

-- what leaves the row, where the first of the heap isn't before the first of the row
pub leaves_row : (o : Option Candidate) (whole row new heap : List Candidate) (first : Candidate) → row ++ heap ≡ whole → IsFirstCandidate row first → ((y : Candidate) → Contains heap y → NotAfter first y) →
    IfSome o (λ x. LeavesQueue row x new) → IfSome o (λ x. LeavesQueue whole x (new ++ heap))
leaves_row None whole row new heap first is f others l = tt
leaves_row (Some x) whole row new heap first is f others l =
    subst (λ all. LeavesQueue all x (new ++ heap)) is
    (record {
      others = IsPermutation-append_left heap row (x ∷ new) l.others;
      least = λ y here. ⊎_elim (λ a. l.least y a) (λ b. after_both x first y (l.least first f.0) (others y b)) (Contains-append_cases row heap y here);
    })

-- and what leaves the heap, where its first is before that of the row
pub leaves_heap : (o : Option Candidate) (whole row heap new : List Candidate) (other : Candidate) → row ++ heap ≡ whole → Contains heap other → ((y : Candidate) → Contains row y → NotAfter other y) →
    IfSome o (λ x. LeavesQueue heap x new) → IfSome o (λ x. LeavesQueue whole x (row ++ new))
leaves_heap None whole row heap new other is there others l = tt
leaves_heap (Some x) whole row heap new other is there others l =
    subst (λ all. LeavesQueue all x (row ++ new)) is
    (record {
      others = IsPermutation-trans (row ++ heap) (row ++ x ∷ new) (x ∷ (row ++ new)) (IsPermutation-append_right row heap (x ∷ new) l.others) (IsPermutation-middle row x new);
      least = λ y here. ⊎_elim (λ a. after_both x other y (l.least other there) (others y a)) (λ b. l.least y b) (Contains-append_cases row heap y here);
    })

pub ahead : (row : List Candidate) (first other : Candidate) → IsFirstCandidate row first → comes_before other first ≡ true → (y : Candidate) → Contains row y → NotAfter other y
ahead row first other f before y here = after_both other first y (sooner (before_true other.length other.height first.length first.height before)) (f.1 y here)
  where
    sooner : (other.length < first.length) ⊎ ((other.length ≡ first.length) × (other.height < first.height)) → NotAfter other first
    sooner p = ⊎_elim (λ a. inl a) (λ b. inr (b.0, let e = b.1 in omega arith)) p

pub behind : (heap : List Candidate) (first other : Candidate) → IsFirstCandidate heap other → comes_before other first ≡ false → (y : Candidate) → Contains heap y → NotAfter first y
behind heap first other f later y here = after_both first other y (before_false other.length other.height first.length first.height later) (f.1 y here)
