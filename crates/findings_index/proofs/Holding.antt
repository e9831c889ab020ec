-- A part holds where it yields something, and where it leads to nothing opaque only there.
use Rattle.std.proofs.Common.{◌≡◌, inl, inr, ℕ, Option, Some, None, ◌∷◌, ◌++◌, map, refl, sym, ap, subst, ◌∙◌}
use Rattle.std.specs.Prelude.{Contains}
use Rattle.std.proofs.lemmas.List.{map-append}
use Rattle.abnf_parts.specs.Part.{Part, Parts, quoted, series, span, seq, alt, rep, ref, opaque, end, next, subparts, all_subparts}
use Rattle.abnf_parts.specs.Names.{Name}
use Rattle.abnf_lint.specs.Yields.{Yields, EachYields, SomeYields}
use Rattle.abnf_digests.specs.Gists.{relinked, all_relinked}
use Rattle.findings_index.specs.Holding.{Holds, EachHolds, SomeHolds}
use Rattle.findings_index.proofs.Elements.{mapped, mapped_back}
use Rattle.findings_index.proofs.Everywhere.{Everywhere, AllEverywhere}

module _ (number : Name → Option ℕ) (At : Name → Type 0) (Rule : ℕ → Type 0) where
  -- a name that holds stands for a rule that yields something
  abbrev pub Carries : Name → Option ℕ → Type 0
  Carries name rule = At name → (q : ℕ) × (number name ≡ Some q) × Rule q

  ref_yields : (name : Name) (q : ℕ) → number name ≡ Some q → Rule q → Yields Rule (ref name (number name))
  ref_yields name q e y = subst (λ o. Yields Rule (ref name o)) (sym e) y

  mutual
    pub part_yields : (p : Part) → Everywhere Carries ⊥ p → Holds At p → Yields Rule (relinked number p)
    part_yields (quoted text exact) c h = tt
    part_yields (series characters) c h = tt
    part_yields (span low high) c h = h
    part_yields (seq ps) c h = parts_yield ps c h
    part_yields (alt ps) c h = some_yields ps c h
    part_yields (rep least most p) c (u, inl z) = (u, inl z)
    part_yields (rep least most p) c (u, inr h) = (u, inr (part_yields p c h))
    part_yields (ref name rule) c h = let q = c h in ref_yields name q.0 q.1 q.2
    part_yields opaque c h = absurd c

    parts_yield : (ps : Parts) → AllEverywhere Carries ⊥ ps → EachHolds At ps → EachYields Rule (all_relinked number ps)
    parts_yield end c h = tt
    parts_yield (next p ps) c h = (part_yields p c.0 h.0, parts_yield ps c.1 h.1)

    some_yields : (ps : Parts) → AllEverywhere Carries ⊥ ps → SomeHolds At ps → SomeYields Rule (all_relinked number ps)
    some_yields end c h = h
    some_yields (next p ps) c (inl h) = inl (part_yields p c.0 h)
    some_yields (next p ps) c (inr h) = inr (some_yields ps c.1 h)

  module _ (back : (name : Name) (q : ℕ) → number name ≡ Some q → Rule q → At name) where
    ref_holds : (name : Name) (o : Option ℕ) → number name ≡ o → Yields Rule (ref name o) → At name
    ref_holds name None e y = absurd y
    ref_holds name (Some q) e y = back name q e y

    mutual
      pub part_holds : (p : Part) → Yields Rule (relinked number p) → Holds At p
      part_holds (quoted text exact) y = tt
      part_holds (series characters) y = tt
      part_holds (span low high) y = y
      part_holds (seq ps) y = parts_hold ps y
      part_holds (alt ps) y = some_hold ps y
      part_holds (rep least most p) (u, inl z) = (u, inl z)
      part_holds (rep least most p) (u, inr y) = (u, inr (part_holds p y))
      part_holds (ref name rule) y = ref_holds name (number name) refl y
      part_holds opaque y = absurd y

      parts_hold : (ps : Parts) → EachYields Rule (all_relinked number ps) → EachHolds At ps
      parts_hold end y = tt
      parts_hold (next p ps) y = (part_holds p y.0, parts_hold ps y.1)

      some_hold : (ps : Parts) → SomeYields Rule (all_relinked number ps) → SomeHolds At ps
      some_hold end y = y
      some_hold (next p ps) (inl y) = inl (part_holds p y)
      some_hold (next p ps) (inr y) = inr (some_hold ps y)

-- ---- what stands in a part

module _ (number : Name → Option ℕ) where
  mutual
    parts_relinked : (p : Part) → subparts (relinked number p) ≡ map (relinked number) (subparts p)
    parts_relinked (quoted text exact) = refl
    parts_relinked (series characters) = refl
    parts_relinked (span low high) = refl
    parts_relinked (seq ps) = ap (λ l. seq (all_relinked number ps) ∷ l) (all_parts_relinked ps)
    parts_relinked (alt ps) = ap (λ l. alt (all_relinked number ps) ∷ l) (all_parts_relinked ps)
    parts_relinked (rep least most p) = ap (λ l. rep least most (relinked number p) ∷ l) (parts_relinked p)
    parts_relinked (ref name rule) = refl
    parts_relinked opaque = refl

    all_parts_relinked : (ps : Parts) → all_subparts (all_relinked number ps) ≡ map (relinked number) (all_subparts ps)
    all_parts_relinked end = refl
    all_parts_relinked (next p ps) = (λ i. parts_relinked p i ++ all_parts_relinked ps i) ∙ sym (map-append (relinked number) (subparts p) (all_subparts ps))

  opaque_back : (p : Part) → relinked number p ≡ opaque → p ≡ opaque
  opaque_back (quoted text exact) e = absurd (cc (e))
  opaque_back (series characters) e = absurd (cc (e))
  opaque_back (span low high) e = absurd (cc (e))
  opaque_back (seq ps) e = absurd (cc (e))
  opaque_back (alt ps) e = absurd (cc (e))
  opaque_back (rep least most p) e = absurd (cc (e))
  opaque_back (ref name rule) e = absurd (cc (e))
  opaque_back opaque e = refl

  ref_back : (p : Part) (name : Name) (q : ℕ) → relinked number p ≡ ref name (Some q) → (other : Name) × (rule : Option ℕ) × (p ≡ ref other rule) × (number other ≡ Some q)
  ref_back (quoted text exact) name q e = absurd (cc (e))
  ref_back (series characters) name q e = absurd (cc (e))
  ref_back (span low high) name q e = absurd (cc (e))
  ref_back (seq ps) name q e = absurd (cc (e))
  ref_back (alt ps) name q e = absurd (cc (e))
  ref_back (rep least most p) name q e = absurd (cc (e))
  ref_back (ref other rule) name q e = let same : number other ≡ Some q = cc (e) in (other, rule, refl, same)
  ref_back opaque name q e = absurd (cc (e))

  pub hidden_there : (p : Part) → Contains (subparts p) opaque → Contains (subparts (relinked number p)) opaque
  hidden_there p c = subst (λ l. Contains l opaque) (sym (parts_relinked p)) (mapped (relinked number) (subparts p) opaque c)

  pub hidden_back : (p : Part) → Contains (subparts (relinked number p)) opaque → Contains (subparts p) opaque
  hidden_back p c =
      let m = mapped_back (relinked number) (subparts p) opaque (subst (λ l. Contains l opaque) (parts_relinked p) c) in
      subst (Contains (subparts p)) (opaque_back m.0 m.2) m.1

  pub use_there : (p : Part) (name : Name) (rule : Option ℕ) (q : ℕ) → number name ≡ Some q → Contains (subparts p) (ref name rule)
      → Contains (subparts (relinked number p)) (ref name (Some q))
  use_there p name rule q e c =
      subst (λ o. Contains (subparts (relinked number p)) (ref name o)) e
      (subst (λ l. Contains l (ref name (number name))) (sym (parts_relinked p)) (mapped (relinked number) (subparts p) (ref name rule) c))

  pub use_back : (p : Part) (name : Name) (q : ℕ) → Contains (subparts (relinked number p)) (ref name (Some q))
      → (other : Name) × (rule : Option ℕ) × (number other ≡ Some q) × Contains (subparts p) (ref other rule)
  use_back p name q c =
      let m = mapped_back (relinked number) (subparts p) (ref name (Some q)) (subst (λ l. Contains l (ref name (Some q))) (parts_relinked p) c) in
      let b = ref_back m.0 name q m.2 in
      (b.0, b.1, b.3, subst (Contains (subparts p)) b.2 m.1)
