-- Members of lists that are put together.
use Rattle.std.proofs.Common.{◌≡◌, ◌<◌, Bool, true, false, List, [], ◌∷◌, ◌++◌, ◌⊎◌, inl, inr, refl, sym, ap, ◌∙◌, subst, arith}
use Rattle.std.specs.Prelude.{Contains, filter, filter_map, flat_map, Option, Some, None, if◌then◌else◌}
use Rattle.std.specs.List.{cons_option}
use Rattle.std.proofs.lemmas.List.Elements.{Contains-append_cases, Contains-append_left, Contains-append_right, Contains-push, Contains-push_cases}

module _ {X : Type 0} where
  pub none_in : {A : Type 0} (x : X) → Contains [] x → A
  none_in x h = absurd (let no : h.0 < 0 = h.1 in omega arith)

  pub one_in : (y x : X) → Contains (y ∷ []) x → y ≡ x
  one_in y x h = elim (Contains-push_cases [] y x h) [ inl k ↦ none_in x k | inr e ↦ e ]

  pub first_in : (x : X) (xs : List X) → Contains (x ∷ xs) x
  first_in x xs = Contains-append_left (x ∷ []) xs x (Contains-push [] x)

  pub later_in : (y : X) (xs : List X) (x : X) → Contains xs x → Contains (y ∷ xs) x
  later_in y xs x h = Contains-append_right (y ∷ []) xs x h

  pub in_cons : (y : X) (xs : List X) (x : X) → Contains (y ∷ xs) x → (y ≡ x) ⊎ Contains xs x
  in_cons y xs x h = elim (Contains-append_cases (y ∷ []) xs x h) [ inl k ↦ inl (one_in y x k) | inr k ↦ inr k ]

-- a list that is made of one for each element
module _ {X A : Type 0} (g : X → List A) where
  pub in_flat : (xs : List X) (a : A) → Contains (flat_map g xs) a → (x : X) × Contains xs x × Contains (g x) a
  in_flat [] a h = none_in a h
  in_flat (x ∷ xs) a h = elim (Contains-append_cases (g x) (flat_map g xs) a h) [
    | inl k ↦ (x, first_in x xs, k)
    | inr k ↦ let r = in_flat xs a k in (r.0, later_in x xs r.0 r.1, r.2)
  ]

  flat_first : (y : X) (xs : List X) (x : X) (a : A) → y ≡ x → Contains (g x) a → Contains (g y ++ flat_map g xs) a
  flat_first y xs x a e k = Contains-append_left (g y) (flat_map g xs) a (subst (λ z. Contains (g z) a) (sym e) k)

  pub flat_in : (xs : List X) (x : X) (a : A) → Contains xs x → Contains (g x) a → Contains (flat_map g xs) a
  flat_in [] x a h k = none_in x h
  flat_in (y ∷ xs) x a h k = elim (in_cons y xs x h) [
    | inl e ↦ flat_first y xs x a e k
    | inr r ↦ Contains-append_right (g y) (flat_map g xs) a (flat_in xs x a r k)
  ]

-- those that pass a test
module _ {X : Type 0} (p : X → Bool) where
  passes_by : (b : Bool) (y : X) (xs : List X) (x : X) → p y ≡ b → (Contains (filter p xs) x → Contains xs x × (p x ≡ true)) →
      Contains (if b then y ∷ filter p xs else filter p xs) x → Contains (y ∷ xs) x × (p x ≡ true)
  passes_by true y xs x e rest h = elim (in_cons y (filter p xs) x h) [
    | inl is ↦ (subst (λ z. Contains (y ∷ xs) z) is (first_in y xs), subst (λ z. p z ≡ true) is e)
    | inr k ↦ let r = rest k in (later_in y xs x r.0, r.1)
  ]
  passes_by false y xs x e rest h = let r = rest h in (later_in y xs x r.0, r.1)

  pub in_filter : (xs : List X) (x : X) → Contains (filter p xs) x → Contains xs x × (p x ≡ true)
  in_filter [] x h = none_in x h
  in_filter (y ∷ xs) x h = passes_by (p y) y xs x refl (in_filter xs x) h

  kept_by : (b : Bool) (y : X) (xs : List X) (x : X) → p y ≡ b → p x ≡ true → (y ≡ x) ⊎ Contains (filter p xs) x → Contains (if b then y ∷ filter p xs else filter p xs) x
  kept_by true y xs x e h k = elim k [
    | inl is ↦ subst (λ z. Contains (y ∷ filter p xs) z) is (first_in y (filter p xs))
    | inr r ↦ later_in y (filter p xs) x r
  ]
  kept_by false y xs x e h k = elim k [
    | inl is ↦ absurd (let yes : p y ≡ true = subst (λ z. p z ≡ true) (sym is) h in cc (e, yes))
    | inr r ↦ r
  ]

  pub filter_in : (xs : List X) (x : X) → Contains xs x → p x ≡ true → Contains (filter p xs) x
  filter_in [] x h k = none_in x h
  filter_in (y ∷ xs) x h k = kept_by (p y) y xs x refl k (elim (in_cons y xs x h) [ inl e ↦ inl e | inr r ↦ inr (filter_in xs x r k) ])

-- those that a function gives
module _ {X A : Type 0} (g : X → Option A) where
  given_by : (o : Option A) (y : X) (xs : List X) (a : A) → g y ≡ o → (Contains (filter_map g xs) a → (x : X) × Contains xs x × (g x ≡ Some a)) →
      Contains (cons_option o (filter_map g xs)) a → (x : X) × Contains (y ∷ xs) x × (g x ≡ Some a)
  given_by None y xs a e rest h = let r = rest h in (r.0, later_in y xs r.0 r.1, r.2)
  given_by (Some b) y xs a e rest h = elim (in_cons b (filter_map g xs) a h) [
    | inl is ↦ (y, first_in y xs, subst (λ z. g y ≡ Some z) is e)
    | inr k ↦ let r = rest k in (r.0, later_in y xs r.0 r.1, r.2)
  ]

  pub in_given : (xs : List X) (a : A) → Contains (filter_map g xs) a → (x : X) × Contains xs x × (g x ≡ Some a)
  in_given [] a h = none_in a h
  in_given (y ∷ xs) a h = given_by (g y) y xs a refl (in_given xs a) h

  first_by : (o : Option A) (rest : List A) (a : A) → o ≡ Some a → Contains (cons_option o rest) a
  first_by None rest a e = absurd (cc e)
  first_by (Some b) rest a e = let is : a ≡ b = cc e in subst (λ z. Contains (b ∷ rest) z) (sym is) (first_in b rest)

  later_by : (o : Option A) (rest : List A) (a : A) → Contains rest a → Contains (cons_option o rest) a
  later_by None rest a h = h
  later_by (Some b) rest a h = later_in b rest a h

  pub given_in : (xs : List X) (x : X) (a : A) → Contains xs x → g x ≡ Some a → Contains (filter_map g xs) a
  given_in [] x a h e = none_in x h
  given_in (y ∷ xs) x a h e = elim (in_cons y xs x h) [
    | inl is ↦ first_by (g y) (filter_map g xs) a (ap g is ∙ e)
    | inr r ↦ later_by (g y) (filter_map g xs) a (given_in xs x a r e)
  ]
