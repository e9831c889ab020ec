-- What holds of each part and its number, gathered along the tree.
use Rattle.std.proofs.Common.{◌≡◌, ℕ, zero, suc, ◌+◌, List, [], ◌∷◌, ◌++◌, length, Some, refl, subst, ◌⊎◌, inl, inr, ⊎_elim, arith, length-append}
use Rattle.std.proofs.lemmas.Option.{none-some, same_Some}
use Rattle.std.specs.Prelude.{slice_get, take}
use Rattle.abnf_parts.specs.Part.{Part, Parts, quoted, series, span, seq, alt, rep, ref, opaque, end, next, subparts, all_subparts, parts_of, root_number}

-- an element of two lists joined stands in the one or in the other
in_append : {X : Type 0} → (a b : List X) (i : ℕ) (x : X) → slice_get (a ++ b) i ≡ Some x → (slice_get a i ≡ Some x) ⊎ ((j : ℕ) × (i ≡ length a + j) × (slice_get b j ≡ Some x))
in_append [] b i x is = inr (i, omega arith, is)
in_append (y ∷ a) b zero x is = inl is
in_append (y ∷ a) b (suc i) x is =
    ⊎_elim
    (λ front. inl front)
    (λ back. inr (back.0, omega (arith, back.1), back.2))
    (in_append a b i x is)

module _ (F : ℕ → Part → Type 0) where
  -- it holds of a run of parts from number n on
  abbrev pub RunHolds : ℕ → List Part → Type 0
  RunHolds n [] = Unit {0}
  RunHolds n (p ∷ ps) = F n p × RunHolds (suc n) ps

  -- it holds of the parts of the tree at number n
  abbrev mutual
    pub TreeHolds : ℕ → Part → Type 0
    TreeHolds n (quoted text exact) = F n (quoted text exact)
    TreeHolds n (series characters) = F n (series characters)
    TreeHolds n (span low high) = F n (span low high)
    TreeHolds n (seq ps) = F n (seq ps) × TreesHold (suc n) ps
    TreeHolds n (alt ps) = F n (alt ps) × TreesHold (suc n) ps
    TreeHolds n (rep least most p) = F n (rep least most p) × TreeHolds (suc n) p
    TreeHolds n (ref name rule) = F n (ref name rule)
    TreeHolds n opaque = F n opaque

    pub TreesHold : ℕ → Parts → Type 0
    TreesHold n end = Unit {0}
    TreesHold n (next p ps) = TreeHolds n p × TreesHold (n + length (subparts p)) ps

  run_front : (n : ℕ) (a b : List Part) → RunHolds n (a ++ b) → RunHolds n a
  run_front n [] b h = tt
  run_front n (p ∷ a) b h = (h.0, run_front (suc n) a b h.1)

  run_back : (n : ℕ) (a b : List Part) → RunHolds n (a ++ b) → RunHolds (n + length a) b
  run_back n [] b h = let e : n ≡ n + 0 = omega arith in subst (λ m. RunHolds m b) e h
  run_back n (p ∷ a) b h =
      let e : suc n + length a ≡ n + length (p ∷ a) = omega arith in
      subst (λ m. RunHolds m b) e (run_back (suc n) a b h.1)

  mutual
    tree_of_run : (n : ℕ) (p : Part) → RunHolds n (subparts p) → TreeHolds n p
    tree_of_run n (quoted text exact) h = h.0
    tree_of_run n (series characters) h = h.0
    tree_of_run n (span low high) h = h.0
    tree_of_run n (seq ps) h = (h.0, trees_of_run (suc n) ps h.1)
    tree_of_run n (alt ps) h = (h.0, trees_of_run (suc n) ps h.1)
    tree_of_run n (rep least most p) h = (h.0, tree_of_run (suc n) p h.1)
    tree_of_run n (ref name rule) h = h.0
    tree_of_run n opaque h = h.0

    trees_of_run : (n : ℕ) (ps : Parts) → RunHolds n (all_subparts ps) → TreesHold n ps
    trees_of_run n end h = tt
    trees_of_run n (next p ps) h = (
      tree_of_run n p (run_front n (subparts p) (all_subparts ps) h),
      trees_of_run (n + length (subparts p)) ps (run_back n (subparts p) (all_subparts ps) h),
    )

  -- it holds of a tree below a tree
  moved : (n i : ℕ) (p q : Part) → n ≡ i → p ≡ q → TreeHolds n p → TreeHolds i q
  moved n i p q e f h = subst (λ m. TreeHolds m q) e (subst (λ t. TreeHolds n t) f h)

  itself : (n i : ℕ) (p q : Part) → TreeHolds n p → slice_get (p ∷ []) i ≡ Some q → TreeHolds (n + i) q
  itself n zero p q h is = moved n (n + 0) p q (omega arith) (same_Some p q is) h
  itself n (suc i) p q h is = absurd (none-some q is)

  mutual
    pub tree_within : (n i : ℕ) (p q : Part) → TreeHolds n p → slice_get (subparts p) i ≡ Some q → TreeHolds (n + i) q
    tree_within n i (quoted text exact) q h is = itself n i (quoted text exact) q h is
    tree_within n i (series characters) q h is = itself n i (series characters) q h is
    tree_within n i (span low high) q h is = itself n i (span low high) q h is
    tree_within n zero (seq ps) q h is = moved n (n + 0) (seq ps) q (omega arith) (same_Some (seq ps) q is) h
    tree_within n (suc i) (seq ps) q h is = moved (suc n + i) (n + suc i) q q (omega arith) refl (trees_within (suc n) i ps q h.1 is)
    tree_within n zero (alt ps) q h is = moved n (n + 0) (alt ps) q (omega arith) (same_Some (alt ps) q is) h
    tree_within n (suc i) (alt ps) q h is = moved (suc n + i) (n + suc i) q q (omega arith) refl (trees_within (suc n) i ps q h.1 is)
    tree_within n zero (rep least most p) q h is = moved n (n + 0) (rep least most p) q (omega arith) (same_Some (rep least most p) q is) h
    tree_within n (suc i) (rep least most p) q h is = moved (suc n + i) (n + suc i) q q (omega arith) refl (tree_within (suc n) i p q h.1 is)
    tree_within n i (ref name rule) q h is = itself n i (ref name rule) q h is
    tree_within n i opaque q h is = itself n i opaque q h is

    trees_within : (n i : ℕ) (ps : Parts) (q : Part) → TreesHold n ps → slice_get (all_subparts ps) i ≡ Some q → TreeHolds (n + i) q
    trees_within n i end q h is = absurd (none-some q is)
    trees_within n i (next p ps) q h is =
        ⊎_elim
        (λ front. tree_within n i p q h.0 front)
        (λ back. moved (n + length (subparts p) + back.0) (n + i) q q (omega arith) refl (trees_within (n + length (subparts p)) back.0 ps q h.1 back.2))
        (in_append (subparts p) (all_subparts ps) i q is)

  -- it holds of the trees of the rules, from number n on
  trees_of_rules : (n : ℕ) (roots : List Part) (r : ℕ) (p : Part) → RunHolds n (parts_of roots) → slice_get roots r ≡ Some p → TreeHolds (n + root_number roots r) p
  trees_of_rules n [] r p h is = absurd (none-some p is)
  trees_of_rules n (q ∷ roots) zero p h is =
      moved n (n + 0) q p (omega arith) (same_Some q p is) (tree_of_run n q (run_front n (subparts q) (parts_of roots) h))
  trees_of_rules n (q ∷ roots) (suc r) p h is =
      moved (n + length (subparts q) + root_number roots r) (n + root_number (q ∷ roots) (suc r)) p p (omega (arith, length-append (subparts q) (parts_of (take r roots)))) refl
      (trees_of_rules (n + length (subparts q)) roots r p (run_back n (subparts q) (parts_of roots) h) is)

  parts_hold : (n : ℕ) (roots : List Part) (i : ℕ) (p : Part) → RunHolds n (parts_of roots) → slice_get (parts_of roots) i ≡ Some p → TreeHolds (n + i) p
  parts_hold n [] i p h is = absurd (none-some p is)
  parts_hold n (q ∷ roots) i p h is =
      ⊎_elim
      (λ front. tree_within n i q p (tree_of_run n q (run_front n (subparts q) (parts_of roots) h)) front)
      (λ back. moved (n + length (subparts q) + back.0) (n + i) p p (omega arith) refl (parts_hold (n + length (subparts q)) roots back.0 p (run_back n (subparts q) (parts_of roots) h) back.2))
      (in_append (subparts q) (parts_of roots) i p is)

  run_of_each : (n : ℕ) (ps : List Part) → ((i : ℕ) (p : Part) → slice_get ps i ≡ Some p → F (n + i) p) → RunHolds n ps
  run_of_each n [] h = tt
  run_of_each n (p ∷ ps) h =
      let e : n + 0 ≡ n = omega arith in
      let step : (i : ℕ) → n + suc i ≡ suc n + i = λ i. omega arith in (
        subst (λ m. F m p) e (h 0 p refl),
        run_of_each (suc n) ps (λ i q is. subst (λ m. F m q) (step i) (h (suc i) q is)),
      )

module _ (roots : List Part) (F : ℕ → Part → Type 0) (each : (n : ℕ) (p : Part) → slice_get (parts_of roots) n ≡ Some p → F n p) where
  whole_run : RunHolds F 0 (parts_of roots)
  whole_run =
      let e : (i : ℕ) → i ≡ 0 + i = λ i. omega arith in
      run_of_each F 0 (parts_of roots) (λ i p is. subst (λ m. F m p) (e i) (each i p is))

  -- it holds of the tree of each rule, at its root's number
  pub rule_holds : (r : ℕ) (p : Part) → slice_get roots r ≡ Some p → TreeHolds F (root_number roots r) p
  rule_holds r p is =
      moved F (0 + root_number roots r) (root_number roots r) p p (omega arith) refl
      (trees_of_rules F 0 roots r p whole_run is)

  -- it holds of the tree of each part, at its number
  pub part_holds : (n : ℕ) (p : Part) → slice_get (parts_of roots) n ≡ Some p → TreeHolds F n p
  part_holds n p is = moved F (0 + n) n p p (omega arith) refl (parts_hold F 0 roots n p whole_run is)

-- it holds of the tree itself
pub holds_here : (F : ℕ → Part → Type 0) (n : ℕ) (p : Part) → TreeHolds F n p → F n p
holds_here F n (quoted text exact) h = h
holds_here F n (series characters) h = h
holds_here F n (span low high) h = h
holds_here F n (seq ps) h = h.0
holds_here F n (alt ps) h = h.0
holds_here F n (rep least most p) h = h.0
holds_here F n (ref name rule) h = h
holds_here F n opaque h = h
