-- A change of parts that goes on to what stands in them: what stands in a part stands changed in the changed part, and the same rules
-- reach opaque parts.
use Rattle.std.proofs.Common.{◌≡◌, ℕ, zero, suc, ◌<◌, Option, Some, None, option_map, List, [], ◌∷◌, length, map, refl, sym, ap, subst, ◌∙◌, arith}
use Rattle.std.specs.Prelude.{◌↔◌, slice_get, slice_index_or, Contains}
use Rattle.std.proofs.lemmas.Option.{slice_get-map}
use Rattle.abnf_parts.specs.Part.{Part, ref, opaque, subparts}
use Rattle.abnf_parts.specs.Reach.{ReachesBy, ReachesOpaque}

-- ---- lists

module _ {A B : Type 0} (f : A → B) where
  map_contains : (xs : List A) (x : A) (k : ℕ) → k < length xs → slice_index_or xs k x ≡ x → Contains (map f xs) (f x)
  map_contains [] x k lt e = absurd (omega (arith, lt))
  map_contains (y ∷ xs) x zero lt e = (0, omega arith, ap f e)
  map_contains (y ∷ xs) x (suc k) lt e = let h = map_contains xs x k (omega arith) e in (suc h.0, omega (arith, h.1), h.2)

  map_back : (xs : List A) (y : B) (k : ℕ) → k < length (map f xs) → slice_index_or (map f xs) k y ≡ y → (x : A) × Contains xs x × (f x ≡ y)
  map_back [] y k lt e = absurd (omega (arith, lt))
  map_back (x ∷ xs) y zero lt e = (x, (0, omega arith, refl), e)
  map_back (x ∷ xs) y (suc k) lt e = let h = map_back xs y k (omega arith) e in (h.0, (suc h.1.0, omega (arith, h.1.1), h.1.2), h.2)

  get_by : (o : Option A) (y : B) → option_map f o ≡ Some y → (x : A) × (o ≡ Some x) × (f x ≡ y)
  get_by None y e = absurd (cc)
  get_by (Some x) y e = (x, refl, cc)

  pub get_back : (xs : List A) (k : ℕ) (y : B) → slice_get (map f xs) k ≡ Some y → (x : A) × (slice_get xs k ≡ Some x) × (f x ≡ y)
  get_back xs k y e = get_by (slice_get xs k) y (sym (slice_get-map f xs k) ∙ e)

  pub get_there : (xs : List A) (k : ℕ) (x : A) → slice_get xs k ≡ Some x → slice_get (map f xs) k ≡ Some (f x)
  get_there xs k x e = slice_get-map f xs k ∙ ap (option_map f) e

-- ---- parts

-- a name stands for this rule in a part
abbrev pub Uses : Part → ℕ → Type 0
Uses root q = (name : List ℕ) × Contains (subparts root) (ref name (Some q))

-- The change goes on to what stands in a part, and takes opaque parts and names of a rule, and no others, to such.
pub record KeepsParts (f : Part → Part) : Type 0 where
  pub inside : (p : Part) → subparts (f p) ≡ map f (subparts p)
  pub opaque_to : f opaque ≡ opaque
  pub opaque_from : (p : Part) → f p ≡ opaque → p ≡ opaque
  pub ref_to : (name : List ℕ) (q : ℕ) → (other : List ℕ) × (f (ref name (Some q)) ≡ ref other (Some q))
  pub ref_from : (p : Part) (name : List ℕ) (q : ℕ) → f p ≡ ref name (Some q) → (other : List ℕ) × (p ≡ ref other (Some q))

module _ (f : Part → Part) (kept : KeepsParts f) where
  has_to : (p root : Part) → Contains (subparts root) p → Contains (subparts (f root)) (f p)
  has_to p root c = subst (λ l. Contains l (f p)) (sym (kept.inside root)) (map_contains f (subparts root) p c.0 c.1 c.2)

  has_from : (p root : Part) → Contains (subparts (f root)) p → (x : Part) × Contains (subparts root) x × (f x ≡ p)
  has_from p root c =
      let d : Contains (map f (subparts root)) p = subst (λ l. Contains l p) (kept.inside root) c in
      map_back f (subparts root) p d.0 d.1 d.2

  pub opaque_there : (root : Part) → Contains (subparts root) opaque → Contains (subparts (f root)) opaque
  opaque_there root c = subst (λ p. Contains (subparts (f root)) p) kept.opaque_to (has_to opaque root c)

  pub opaque_back : (root : Part) → Contains (subparts (f root)) opaque → Contains (subparts root) opaque
  opaque_back root c = let x = has_from opaque root c in subst (λ p. Contains (subparts root) p) (kept.opaque_from x.0 x.2) x.1

  pub uses_there : (root : Part) (q : ℕ) → Uses root q → Uses (f root) q
  uses_there root q u =
      let n = kept.ref_to u.0 q in
      (n.0, subst (λ p. Contains (subparts (f root)) p) n.1 (has_to (ref u.0 (Some q)) root u.1))

  pub uses_back : (root : Part) (q : ℕ) → Uses (f root) q → Uses root q
  uses_back root q u =
      let x = has_from (ref u.0 (Some q)) root u.1 in
      let n = kept.ref_from x.0 u.0 q x.2 in
      (n.0, subst (λ p. Contains (subparts root) p) n.1 x.1)

  module _ (rules : List Part) where
    reach_to : (uses r : ℕ) → ReachesBy rules uses r → ReachesBy (map f rules) uses r
    reach_to zero r h = (f h.0, get_there f rules r h.0 h.1, opaque_there h.0 h.2)
    reach_to (suc uses) r h =
        let u = uses_there h.0 h.3 (h.2, h.4) in
        (f h.0, get_there f rules r h.0 h.1, u.0, h.3, u.1, reach_to uses h.3 h.5)

    reach_from : (uses r : ℕ) → ReachesBy (map f rules) uses r → ReachesBy rules uses r
    reach_from zero r h =
        let b = get_back f rules r h.0 h.1 in
        (b.0, b.1, opaque_back b.0 (subst (λ p. Contains (subparts p) opaque) (sym b.2) h.2))
    reach_from (suc uses) r h =
        let b = get_back f rules r h.0 h.1 in
        let u = uses_back b.0 h.3 (h.2, subst (λ p. Contains (subparts p) (ref h.2 (Some h.3))) (sym b.2) h.4) in
        (b.0, b.1, u.0, h.3, u.1, reach_from uses h.3 h.5)

    pub reaches : (r : ℕ) → ReachesOpaque rules r ↔ ReachesOpaque (map f rules) r
    reaches r = (λ h. (h.0, reach_to h.0 r h.1), λ h. (h.0, reach_from h.0 r h.1))
