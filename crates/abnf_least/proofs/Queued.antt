-- A queue over a heap, and what waits once one joins or leaves.
use Rattle.std.proofs.Common.{◌≡◌, ℕ, zero, suc, ◌+◌, ◌<◌, ◌≤◌, ◌⊎◌, inl, inr, ⊎_elim, false, cond, List, [], ◌∷◌, length, refl, sym, ap, ◌∙◌, arith, map, eqb}
use Rattle.std.proofs.lemmas.Bool.{lt-ltb, le-ltb, eq-eqb, cases_order, cases_lt, true≢false}
use Rattle.std.proofs.lemmas.List.Sorted.{IsPermutation-map, Contains-permutation, length_permutation}
use Rattle.std.proofs.lemmas.List.Elements.{Contains-append_right, Contains-append_cases, All-from_recursion, All-contains}
use Rattle.std.specs.List.{Contains, AllByRecursion}
use Rattle.std.specs.List.Sorted.{IsPermutation}
use Rattle.std.specs.Ordering.{nat_cmp, ordering_then, is_lt}
use Rattle.std.specs.declared.cmp.Ordering.{Ordering}
use Rattle.std.specs.declared.cmp.Ordering.TheVariants.{Less, Equal, Greater}
use Rattle.std.specs.declared.cmp.Reverse.{Reverse}
use Rattle.abnf_least.specs.declared.candidate.Candidate.{Candidate}
use Rattle.abnf_least.specs.own.Order.{candidate_cmp}
use Rattle.abnf_least.specs.own.Queue.{JoinsQueue, LeavesQueue}

abbrev pub candidates : List (Reverse Candidate) → List Candidate
candidates xs = map (λ r. r.0) xs

less : (a b : ℕ) (o : Ordering) → a < b → ordering_then (nat_cmp a b) o ≡ Less
less a b o h = ap (λ t. ordering_then (cond t Less (cond (eqb a b) Equal Greater)) o) (lt-ltb a b h)

equal : (a b : ℕ) (o : Ordering) → a ≡ b → ordering_then (nat_cmp a b) o ≡ o
equal a b o h =
    ap (λ t. ordering_then (cond t Less (cond (eqb a b) Equal Greater)) o) (le-ltb a b (omega arith))
    ∙ ap (λ t. ordering_then (cond t Equal Greater) o) (eq-eqb a b h)

abbrev NotLess : Candidate → Candidate → Type 0
NotLess x y = (x.length < y.length) ⊎ ((x.length ≡ y.length) × (x.height ≤ y.height))

not_less : (x y : Candidate) → is_lt (candidate_cmp y x) ≡ false → NotLess x y
not_less x y f =
    let refuted : candidate_cmp y x ≡ Less → ⊥ = λ e. true≢false (sym (ap is_lt e) ∙ f) in
    let rest = ordering_then (nat_cmp y.height x.height) (nat_cmp y.number x.number) in
    ⊎_elim
    (λ same. ⊎_elim
    (λ lower. absurd (refuted (equal y.length x.length rest same ∙ less y.height x.height (nat_cmp y.number x.number) lower)))
    (λ higher. inr (sym same, higher))
    (cases_lt y.height x.height))
    (λ other. ⊎_elim (λ shorter. absurd (refuted (less y.length x.length rest shorter))) (λ longer. inl longer) other)
    (cases_order y.length x.length)

pub all_mapped : (x : Candidate) (xs : List (Reverse Candidate)) → AllByRecursion (λ r. is_lt (candidate_cmp r.0 x) ≡ false) xs → AllByRecursion (NotLess x) (candidates xs)
all_mapped x [] all = tt
all_mapped x (r ∷ xs) all = (not_less x r.0 all.0, all_mapped x xs all.1)

pub joined : (old new : List (Reverse Candidate)) (x : Candidate) → IsPermutation (record { 0 = x } ∷ old) new → JoinsQueue (candidates old) x (candidates new)
joined old new x moved = IsPermutation-map (λ (r : Reverse Candidate). r.0) (record { 0 = x } ∷ old) new moved

pub left : (old new : List (Reverse Candidate)) (x : Candidate) → IsPermutation old (record { 0 = x } ∷ new) → AllByRecursion (λ r. is_lt (candidate_cmp r.0 x) ≡ false) old → LeavesQueue (candidates old) x (candidates new)
left old new x moved upper =
    record {
      others = IsPermutation-map (λ (r : Reverse Candidate). r.0) old (record { 0 = x } ∷ new) moved;
      least = λ y here. All-contains (NotLess x) (candidates old) y (All-from_recursion (NotLess x) (candidates old) (all_mapped x old upper)) here;
    }

-- ---- what waits after that

only : (x y : Candidate) → Contains (x ∷ []) y → y ≡ x
only x y (zero, within, is) = sym is
only x y (suc k, within, is) = absurd (omega arith)

module _ (old new : List Candidate) (x : Candidate) where
  pub still_there : JoinsQueue old x new → (y : Candidate) → Contains old y → Contains new y
  still_there j y here = Contains-permutation (x ∷ old) new y j (Contains-append_right (x ∷ []) old y here)

  pub now_there : JoinsQueue old x new → Contains new x
  now_there j = Contains-permutation (x ∷ old) new x j (0, omega arith, refl)

  pub others_there : LeavesQueue old x new → (y : Candidate) → Contains old y → (y ≡ x) ⊎ Contains new y
  others_there l y here =
      ⊎_elim (λ a. inl (only x y a)) (λ b. inr b) (Contains-append_cases (x ∷ []) new y (Contains-permutation old (x ∷ new) y l.others here))

  pub one_fewer : LeavesQueue old x new → length new + 1 ≡ length old
  one_fewer l = let e = length_permutation old (x ∷ new) l.others in omega (arith, e)
