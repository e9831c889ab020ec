-- Each list has a stable order: each element is put before those that it doesn't come after.
use Rattle.std.proofs.Common.{◌≡◌, ◌∙◌, ◌<◌, ◌+◌, ℕ, zero, suc, Bool, true, false, List, [], ◌∷◌, length, refl, ap, subst, arith, get_or}
use Rattle.std.specs.Prelude.{not, ◌&&◌, filter, if◌then◌else◌}
use Rattle.std.specs.Cmp.{IsStrictWeakOrder}
use Rattle.std.specs.List.Sorted.{IsPermutation, IsSortedBy, IsStableBy, ties}
use Rattle.std.proofs.lemmas.List.Sorted.{IsPermutation-cons, IsPermutation-refl, IsPermutation-trans}

module _ {X : Type 0} (lt : X → X → Bool) (o : IsStrictWeakOrder lt) where
  abbrev put_by : Bool → X → X → List X → List X → List X
  put_by true x y ys rest = y ∷ rest
  put_by false x y ys rest = x ∷ y ∷ ys

  abbrev put : X → List X → List X
  put x [] = x ∷ []
  put x (y ∷ ys) = put_by (lt y x) x y ys (put x ys)

  abbrev pub ordered : List X → List X
  ordered [] = []
  ordered (x ∷ xs) = put x (ordered xs)

  -- ---- the same elements

  swapped : (x y : X) (ys : List X) → IsPermutation (x ∷ y ∷ ys) (y ∷ x ∷ ys)
  swapped x y ys = record { moves = (0, 1) ∷ []; below = (omega arith, omega arith, tt); is = refl }

  put_all_by : (b : Bool) (x y : X) (ys rest : List X) → IsPermutation (x ∷ ys) rest → IsPermutation (x ∷ y ∷ ys) (put_by b x y ys rest)
  put_all_by true x y ys rest p = IsPermutation-trans (x ∷ y ∷ ys) (y ∷ x ∷ ys) (y ∷ rest) (swapped x y ys) (IsPermutation-cons y (x ∷ ys) rest p)
  put_all_by false x y ys rest p = IsPermutation-refl (x ∷ y ∷ ys)

  put_all : (x : X) (ys : List X) → IsPermutation (x ∷ ys) (put x ys)
  put_all x [] = IsPermutation-refl (x ∷ [])
  put_all x (y ∷ ys) = put_all_by (lt y x) x y ys (put x ys) (put_all x ys)

  pub ordered_all : (xs : List X) → IsPermutation xs (ordered xs)
  ordered_all [] = IsPermutation-refl []
  ordered_all (x ∷ xs) = IsPermutation-trans (x ∷ xs) (x ∷ ordered xs) (put x (ordered xs)) (IsPermutation-cons x xs (ordered xs) (ordered_all xs)) (put_all x (ordered xs))

  -- ---- in order

  -- the first of the list doesn't come before x
  abbrev Leads : X → List X → Type 0
  Leads x [] = Unit {0}
  Leads x (y ∷ ys) = lt y x ≡ false

  abbrev Rises : List X → Type 0
  Rises [] = Unit {0}
  Rises (x ∷ xs) = Leads x xs × Rises xs

  leads_by : (b : Bool) (x y z : X) (ys rest : List X) → lt x y ≡ false → lt z y ≡ false → Leads y (put_by b x z ys rest)
  leads_by true x y z ys rest p q = q
  leads_by false x y z ys rest p q = p

  leads : (x y : X) (ys : List X) → lt x y ≡ false → Leads y ys → Leads y (put x ys)
  leads x y [] p q = p
  leads x y (z ∷ zs) p q = leads_by (lt z x) x y z zs (put x zs) p q

  one_way_by : (b : Bool) (x y : X) (ys : List X) → lt y x ≡ b → Rises (y ∷ ys) → Rises (put x ys) → Rises (put_by b x y ys (put x ys))
  one_way_by true x y ys e up rest = (leads x y ys (o.one_way y x e) up.0, rest)
  one_way_by false x y ys e up rest = (e, up)

  put_rises : (x : X) (ys : List X) → Rises ys → Rises (put x ys)
  put_rises x [] up = (tt, tt)
  put_rises x (y ∷ ys) up = one_way_by (lt y x) x y ys refl up (put_rises x ys up.1)

  ordered_rises : (xs : List X) → Rises (ordered xs)
  ordered_rises [] = tt
  ordered_rises (x ∷ xs) = put_rises x (ordered xs) (ordered_rises xs)

  sorted : (xs : List X) → Rises xs → (k : ℕ) (d : X) → k + 1 < length xs → lt (get_or xs (k + 1) d) (get_or xs k d) ≡ false
  sorted [] up k d h = absurd (omega arith)
  sorted (x ∷ []) up k d h = absurd (omega arith)
  sorted (x ∷ y ∷ ys) up zero d h = up.0
  sorted (x ∷ y ∷ ys) up (suc k) d h =
      let e : suc (k + 1) ≡ suc k + 1 = omega arith in
      subst (λ n. lt (get_or (x ∷ y ∷ ys) n d) (get_or (y ∷ ys) k d) ≡ false) e (sorted (y ∷ ys) up.1 k d (omega arith))

  pub ordered_sorted : (xs : List X) → IsSortedBy lt (ordered xs)
  ordered_sorted xs k d low h = sorted (ordered xs) (ordered_rises xs) k d h

  -- ---- those that tie stay as they stand

  abbrev kept_by : Bool → X → List X → List X
  kept_by b x xs = if b then x ∷ xs else xs

  both_false : (a b : Bool) → (not a && not b) ≡ true → (a ≡ false) × (b ≡ false)
  both_false true b e = absurd (cc e)
  both_false false true e = absurd (cc e)
  both_false false false e = (refl, refl)

  -- not both tie with z
  apart : (x y z : X) → lt y x ≡ true → ties lt z y ≡ true → ties lt z x ≡ true → ⊥
  apart x y z before p q =
      let first = both_false (lt z y) (lt y z) p in
      let second = both_false (lt z x) (lt x z) q in
      let not_before : lt y x ≡ false = o.chain y z x first.1 second.0 in
      cc (before, not_before)

  past : (b c : Bool) (x y : X) (ys rest : List X) → (b ≡ true → c ≡ true → ⊥) → rest ≡ kept_by c x ys → kept_by b y rest ≡ kept_by c x (kept_by b y ys)
  past true true x y ys rest clash e = absurd (clash refl refl)
  past true false x y ys rest clash e = ap (λ l. y ∷ l) e
  past false c x y ys rest clash e = e

  put_stable_by : (z : X) (b : Bool) (x y : X) (ys rest : List X) → lt y x ≡ b → filter (ties lt z) rest ≡ filter (ties lt z) (x ∷ ys) → filter (ties lt z) (put_by b x y ys rest) ≡ filter (ties lt z) (x ∷ y ∷ ys)
  put_stable_by z true x y ys rest e same = past (ties lt z y) (ties lt z x) x y (filter (ties lt z) ys) (filter (ties lt z) rest) (λ p q. apart x y z e p q) same
  put_stable_by z false x y ys rest e same = refl

  put_stable : (z x : X) (ys : List X) → filter (ties lt z) (put x ys) ≡ filter (ties lt z) (x ∷ ys)
  put_stable z x [] = refl
  put_stable z x (y ∷ ys) = put_stable_by z (lt y x) x y ys (put x ys) refl (put_stable z x ys)

  pub ordered_stable : (xs : List X) → IsStableBy lt xs (ordered xs)
  ordered_stable [] z = refl
  ordered_stable (x ∷ xs) z = put_stable z x (ordered xs) ∙ ap (λ l. kept_by (ties lt z x) x l) (ordered_stable xs z)
