-- There is one stable order of a list.
use Rattle.std.proofs.Common.{◌≡◌, ◌∙◌, ◌<◌, ◌+◌, ℕ, suc, Bool, true, false, List, [], ◌∷◌, length, refl, sym, ap, subst, arith, get_or}
use Rattle.std.specs.Prelude.{not, ◌&&◌, filter, if◌then◌else◌}
use Rattle.std.specs.Cmp.{IsStrictWeakOrder}
use Rattle.std.specs.List.Sorted.{IsSortedBy, ties}
use Rattle.std.proofs.lemmas.List.Sorted.{sorted_far}

module _ {X : Type 0} (lt : X → X → Bool) (o : IsStrictWeakOrder lt) where
  self : (x : X) (b : Bool) → lt x x ≡ b → lt x x ≡ false
  self x true e = o.one_way x x e
  self x false e = e

  -- above what is above
  above : (x y w : X) → lt x y ≡ true → lt w y ≡ false → (b : Bool) → lt x w ≡ b → lt x w ≡ true
  above x y w xy wy true e = e
  above x y w xy wy false e = let no : lt x y ≡ false = o.chain x w y e wy in cc (xy, no)

  none : (x : X) (ys : List X) → ((i : ℕ) (d : X) → i < length ys → lt x (get_or ys i d) ≡ true) → filter (ties lt x) ys ≡ []
  none x [] h = refl
  none x (y ∷ ys) h =
      ap (λ b. if not b && not (lt y x) then y ∷ filter (ties lt x) ys else filter (ties lt x) ys) (h 0 x (omega arith))
      ∙ none x ys (λ i d k. h (suc i) d (omega arith))

  -- what stands before the first of a sorted list ties with none of it
  before_first : (x y : X) (ys : List X) → IsSortedBy lt (y ∷ ys) → lt x y ≡ true → filter (ties lt x) (y ∷ ys) ≡ []
  before_first x y ys up xy = none x (y ∷ ys) (λ i d k. above x y (get_or (y ∷ ys) i d) xy (sorted_far lt o (y ∷ ys) up 0 i d (omega arith) k) (lt x (get_or (y ∷ ys) i d)) refl)

  ties_self : (x : X) → ties lt x x ≡ true
  ties_self x = ap (λ b. not b && not b) (self x (lt x x) refl)

  -- the first of a list stands among those that tie with it
  first_kept : (x : X) (xs : List X) → filter (ties lt x) (x ∷ xs) ≡ x ∷ filter (ties lt x) xs
  first_kept x xs = ap (λ b. if b then x ∷ filter (ties lt x) xs else filter (ties lt x) xs) (ties_self x)

  tail_sorted : (x : X) (xs : List X) → IsSortedBy lt (x ∷ xs) → IsSortedBy lt xs
  tail_sorted x xs up k d low h =
      let e : suc k + 1 ≡ suc (k + 1) = omega arith in subst (λ n. lt (get_or (x ∷ xs) n d) (get_or xs k d) ≡ false) e (up (suc k) d (omega arith) (omega arith))

  not_before : (y z : X) (ys zs : List X) → IsSortedBy lt (z ∷ zs) → filter (ties lt y) (y ∷ ys) ≡ filter (ties lt y) (z ∷ zs) → (b : Bool) → lt y z ≡ b → lt y z ≡ false
  not_before y z ys zs up same true e =
      let clash : y ∷ filter (ties lt y) ys ≡ [] = sym (first_kept y ys) ∙ (same ∙ before_first y z zs up e) in absurd (cc clash)
  not_before y z ys zs up same false e = e

  same_first : (y z : X) (ys zs : List X) → lt y z ≡ false → lt z y ≡ false → filter (ties lt y) (y ∷ ys) ≡ filter (ties lt y) (z ∷ zs) → y ≡ z
  same_first y z ys zs yz zy same =
      let tied : ties lt y z ≡ true = ap (λ b. not b && not (lt z y)) yz ∙ ap not zy in
      let heads : y ∷ filter (ties lt y) ys ≡ z ∷ filter (ties lt y) zs = sym (first_kept y ys) ∙ (same ∙ ap (λ b. if b then z ∷ filter (ties lt y) zs else filter (ties lt y) zs) tied) in cc heads

  same_tail : (x y : X) (ys zs : List X) (b : Bool) → (let if_tied : Bool → List X → List X = λ c xs. if c then y ∷ filter (ties lt x) xs else filter (ties lt x) xs in if_tied b ys ≡ if_tied b zs) → filter (ties lt x) ys ≡ filter (ties lt x) zs
  same_tail x y ys zs true e = cc e
  same_tail x y ys zs false e = e

  pub one_order : (ys zs : List X) → IsSortedBy lt ys → IsSortedBy lt zs → ((x : X) → filter (ties lt x) ys ≡ filter (ties lt x) zs) → ys ≡ zs
  one_order [] [] up vp same = refl
  one_order [] (z ∷ zs) up vp same = let clash : [] ≡ z ∷ filter (ties lt z) zs = same z ∙ first_kept z zs in absurd (cc clash)
  one_order (y ∷ ys) [] up vp same = let clash : y ∷ filter (ties lt y) ys ≡ [] = sym (first_kept y ys) ∙ same y in absurd (cc clash)
  one_order (y ∷ ys) (z ∷ zs) up vp same =
      let yz = not_before y z ys zs vp (same y) (lt y z) refl in
      let zy = not_before z y zs ys up (sym (same z)) (lt z y) refl in
      let first : y ≡ z = same_first y z ys zs yz zy (same y) in
      let rest : (x : X) → filter (ties lt x) ys ≡ filter (ties lt x) zs = λ x. same_tail x y ys zs (ties lt x y) (same x ∙ sym (ap (λ w. filter (ties lt x) (w ∷ zs)) first)) in
      ap (λ w. w ∷ ys) first ∙ ap (λ ws. z ∷ ws) (one_order ys zs (tail_sorted y ys up) (tail_sorted z zs vp) rest)
