-- What stands in lists.
use Rattle.std.proofs.Common.{◌≡◌, ◌<◌, ◌+◌, ℕ, zero, suc, ◌⊎◌, ⊎_elim, inl, inr, Bool, true, false, cond, ◌||◌, List, [], ◌∷◌, ◌++◌, length, map, Option, Some, None, refl, sym, ap, subst, ◌∙◌, arith}
use Rattle.std.specs.Prelude.{Contains, slice_index_or, slice_get, filter, flat_map, filter_map}
use Rattle.std.specs.List.{list_any, cons_option}
use Rattle.std.specs.Str.{bytes_eq}
use Rattle.std.proofs.lemmas.List.Elements.{Contains-append_left, Contains-append_right, Contains-append_cases}
use Rattle.std.proofs.lemmas.Bool.{or_left, or_right}
use Rattle.abnf_parts.specs.Names.{Name}
use Rattle.abnf_parts.proofs.NameLaws.{same_is, same_refl}

module _ {X : Type 0} where
  pub first_in : (x : X) (xs : List X) → Contains (x ∷ xs) x
  first_in x xs = (0, omega arith, refl)

  pub later_in : (y : X) (xs : List X) (x : X) → Contains xs x → Contains (y ∷ xs) x
  later_in y xs x c = (suc c.0, omega (arith, c.1), c.2)

  pub first_or_later : (y : X) (xs : List X) (x : X) → Contains (y ∷ xs) x → (y ≡ x) ⊎ Contains xs x
  first_or_later y xs x c = by c.0 c.1 c.2
    where
      by : (k : ℕ) → k < length (y ∷ xs) → slice_index_or (y ∷ xs) k x ≡ x → (y ≡ x) ⊎ Contains xs x
      by zero lt e = inl e
      by (suc k) lt e = inr (k, omega (arith, lt), e)

  pub none_in : {A : Type 0} (x : X) → Contains {X = X} [] x → A
  none_in x c = absurd (omega (arith, c.1))

  -- ---- lists that are tested

  module _ (test : X → Bool) where
    kept_by : (b : Bool) (y : X) (xs : List X) (x : X) → (y ≡ x → b ≡ true) → (y ≡ x) ⊎ Contains xs x → Contains (cond b (y ∷ xs) xs) x
    kept_by true y xs x h (inl e) = subst (λ z. Contains (y ∷ xs) z) e (first_in y xs)
    kept_by true y xs x h (inr c) = later_in y xs x c
    kept_by false y xs x h (inl e) = let t : false ≡ true = h e in absurd (cc (t))
    kept_by false y xs x h (inr c) = c

    pub kept : (xs : List X) (x : X) → test x ≡ true → Contains xs x → Contains (filter test xs) x
    kept [] x t c = none_in x c
    kept (y ∷ xs) x t c =
        kept_by (test y) y (filter test xs) x (λ e. subst (λ z. test z ≡ true) (sym e) t) (⊎_elim (λ e. inl e) (λ d. inr (kept xs x t d)) (first_or_later y xs x c))

    back_by : (b : Bool) (y : X) (xs : List X) (x : X) → test y ≡ b → Contains (cond b (y ∷ filter test xs) (filter test xs)) x
        → (Contains (filter test xs) x → Contains xs x × (test x ≡ true))
        → Contains (y ∷ xs) x × (test x ≡ true)
    back_by true y xs x e c more = by (first_or_later y (filter test xs) x c)
      where
        by : (y ≡ x) ⊎ Contains (filter test xs) x → Contains (y ∷ xs) x × (test x ≡ true)
        by (inl f) = (subst (λ z. Contains (y ∷ xs) z) f (first_in y xs), subst (λ z. test z ≡ true) f e)
        by (inr d) = let m = more d in (later_in y xs x m.0, m.1)
    back_by false y xs x e c more = let m = more c in (later_in y xs x m.0, m.1)

    pub kept_back : (xs : List X) (x : X) → Contains (filter test xs) x → Contains xs x × (test x ≡ true)
    kept_back [] x c = none_in x c
    kept_back (y ∷ xs) x c = back_by (test y) y xs x refl c (kept_back xs x)

    pub any_there : (xs : List X) (x : X) → Contains xs x → test x ≡ true → list_any test xs ≡ true
    any_there [] x c t = none_in x c
    any_there (y ∷ xs) x c t =
        ⊎_elim (λ e. or_left (test y) (list_any test xs) (subst (λ z. test z ≡ true) (sym e) t))
        (λ d. or_right (test y) (list_any test xs) (any_there xs x d t)) (first_or_later y xs x c)

    any_back_by : (b : Bool) (y : X) (xs : List X) → test y ≡ b → (b || list_any test xs) ≡ true → (list_any test xs ≡ true → (x : X) × Contains xs x × (test x ≡ true))
        → (x : X) × Contains (y ∷ xs) x × (test x ≡ true)
    any_back_by true y xs e h more = (y, first_in y xs, e)
    any_back_by false y xs e h more = let m = more h in (m.0, later_in y xs m.0 m.1, m.2)

    pub any_back : (xs : List X) → list_any test xs ≡ true → (x : X) × Contains xs x × (test x ≡ true)
    any_back [] h = absurd (cc (h))
    any_back (y ∷ xs) h = any_back_by (test y) y xs refl h (any_back xs)

-- ---- lists that are mapped

module _ {Y : Type 0} where
  some_first : (o : Option Y) (ys : List Y) (y : Y) → o ≡ Some y → Contains (cons_option o ys) y
  some_first None ys y e = absurd (cc (e))
  some_first (Some z) ys y e = let same : z ≡ y = cc (e) in subst (λ w. Contains (z ∷ ys) w) same (first_in z ys)

  some_later : (o : Option Y) (ys : List Y) (y : Y) → Contains ys y → Contains (cons_option o ys) y
  some_later None ys y c = c
  some_later (Some z) ys y c = later_in z ys y c

module _ {X Y : Type 0} where
  pub mapped : (f : X → Y) (xs : List X) (x : X) → Contains xs x → Contains (map f xs) (f x)
  mapped f [] x c = none_in x c
  mapped f (y ∷ xs) x c =
      ⊎_elim (λ e. subst (λ z. Contains (f y ∷ map f xs) (f z)) e (first_in (f y) (map f xs))) (λ d. later_in (f y) (map f xs) (f x) (mapped f xs x d)) (first_or_later y xs x c)

  pub mapped_back : (f : X → Y) (xs : List X) (y : Y) → Contains (map f xs) y → (x : X) × Contains xs x × (f x ≡ y)
  mapped_back f [] y c = none_in y c
  mapped_back f (x ∷ xs) y c =
      ⊎_elim (λ e. (x, first_in x xs, e)) (λ d. let m = mapped_back f xs y d in (m.0, later_in x xs m.0 m.1, m.2)) (first_or_later (f x) (map f xs) y c)

  pub flat : (f : X → List Y) (xs : List X) (x : X) (y : Y) → Contains xs x → Contains (f x) y → Contains (flat_map f xs) y
  flat f [] x y c d = none_in x c
  flat f (z ∷ xs) x y c d =
      ⊎_elim (λ e. Contains-append_left (f z) (flat_map f xs) y (subst (λ w. Contains (f w) y) (sym e) d)) (λ g. Contains-append_right (f z) (flat_map f xs) y (flat f xs x y g d))
      (first_or_later z xs x c)

  pub flat_back : (f : X → List Y) (xs : List X) (y : Y) → Contains (flat_map f xs) y → (x : X) × Contains xs x × Contains (f x) y
  flat_back f [] y c = none_in y c
  flat_back f (x ∷ xs) y c =
      ⊎_elim (λ d. (x, first_in x xs, d)) (λ d. let m = flat_back f xs y d in (m.0, later_in x xs m.0 m.1, m.2)) (Contains-append_cases (f x) (flat_map f xs) y c)

  pub told_some : (f : X → Option Y) (xs : List X) (x : X) (y : Y) → Contains xs x → f x ≡ Some y → Contains (filter_map f xs) y
  told_some f [] x y c e = none_in x c
  told_some f (z ∷ xs) x y c e =
      ⊎_elim (λ g. some_first (f z) (filter_map f xs) y (ap f g ∙ e)) (λ d. some_later (f z) (filter_map f xs) y (told_some f xs x y d e)) (first_or_later z xs x c)

-- ---- names

pub name_there : (names : List Name) (name : Name) → Contains names name → list_any (bytes_eq name) names ≡ true
name_there names name c = any_there (bytes_eq name) names name c (same_refl name)

pub name_back : (names : List Name) (name : Name) → list_any (bytes_eq name) names ≡ true → Contains names name
name_back names name h =
    let b = any_back (bytes_eq name) names h in
    subst (λ n. Contains names n) (sym (same_is name b.0 b.2)) b.1

-- ---- places in lists

module _ {X : Type 0} where
  pub get_front : (xs ys : List X) (r : ℕ) (x : X) → slice_get xs r ≡ Some x → slice_get (xs ++ ys) r ≡ Some x
  get_front [] ys r x e = absurd (cc (e))
  get_front (y ∷ xs) ys zero x e = e
  get_front (y ∷ xs) ys (suc r) x e = get_front xs ys r x e

  pub get_behind : (xs ys : List X) (j r : ℕ) (x : X) → length xs + j ≡ r → slice_get ys j ≡ Some x → slice_get (xs ++ ys) r ≡ Some x
  get_behind [] ys j r x e g = subst (λ k. slice_get ys k ≡ Some x) (let f : j ≡ r = omega (arith, e) in f) g
  get_behind (y ∷ xs) ys j zero x e g = absurd (omega (arith, e))
  get_behind (y ∷ xs) ys j (suc r) x e g = get_behind xs ys j r x (omega (arith, e)) g

  pub get_contains : (xs : List X) (r : ℕ) (x : X) → slice_get xs r ≡ Some x → Contains xs x
  get_contains [] r x e = absurd (cc (e))
  get_contains (y ∷ xs) zero x e = let same : y ≡ x = cc (e) in subst (λ z. Contains (y ∷ xs) z) same (first_in y xs)
  get_contains (y ∷ xs) (suc r) x e = later_in y xs x (get_contains xs r x e)
