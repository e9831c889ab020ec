-- Sound marks stay sound when a name is marked of which an alternative holds by them, or uses a marked name.
use Rattle.std.proofs.Common.{◌≡◌, ℕ, zero, suc, ◌+◌, ◌≤◌, ◌⊎◌, inl, inr, Bool, true, false, not, Option, Some, None, List, arith}
use Rattle.std.specs.Prelude.{◌||◌, nat_lt, nat_eq, Contains}
use Rattle.std.specs.Option.{option_map_or}
use Rattle.std.proofs.lemmas.Bool.{leb-true, ltb-false, eqb-true, and_parts, not-true, or_cases}
use Rattle.abnf_parts.specs.Generates.{UpTo}
use Rattle.abnf_parts.specs.Names.{Name}
use Rattle.abnf_parts.specs.Part.{Part, Parts, quoted, series, span, seq, alt, rep, ref, opaque, end, next, subparts}
use Rattle.abnf_digests.specs.Digests.{Digest}
use Rattle.findings_index.specs.Holding.{Holds, EachHolds, SomeHolds, IsAlternative, HoldsBy}
use Rattle.findings_index.specs.Leading.{LeadsToOpaqueBy}
use Rattle.findings_index.specs.Marked.{holds, each_holds, some_holds}

-- ---- more names that hold

module _ (At More : Name → Type 0) (more : (name : Name) → At name → More name) where
  mutual
    pub holds_more : (p : Part) → Holds At p → Holds More p
    holds_more (quoted text exact) h = tt
    holds_more (series characters) h = tt
    holds_more (span low high) h = h
    holds_more (seq ps) h = each_more ps h
    holds_more (alt ps) h = some_more ps h
    holds_more (rep least most p) (u, inl z) = (u, inl z)
    holds_more (rep least most p) (u, inr y) = (u, inr (holds_more p y))
    holds_more (ref name rule) h = more name h
    holds_more opaque h = tt

    pub each_more : (ps : Parts) → EachHolds At ps → EachHolds More ps
    each_more end h = tt
    each_more (next p ps) h = (holds_more p h.0, each_more ps h.1)

    pub some_more : (ps : Parts) → SomeHolds At ps → SomeHolds More ps
    some_more end h = h
    some_more (next p ps) (inl h) = inl (holds_more p h)
    some_more (next p ps) (inr h) = inr (some_more ps h)

pub holds_by_more : (digests : List Digest) (k m : ℕ) → k ≤ m → (name : Name) → HoldsBy digests k name → HoldsBy digests m name
holds_by_more digests zero m less name h = absurd h
holds_by_more digests (suc k) zero less name h = absurd (omega (arith, less))
holds_by_more digests (suc k) (suc m) less name (inl core) = inl core
holds_by_more digests (suc k) (suc m) less name (inr h) =
    inr (h.0, h.1, holds_more (HoldsBy digests k) (HoldsBy digests m) (holds_by_more digests k m (omega (arith, less))) h.0 h.2)

-- ---- what holds by marks holds

up_to : (least : ℕ) (most : Option ℕ) → not (option_map_or (λ m. nat_lt m least) most false) ≡ true → UpTo most least
up_to least None e = tt
up_to least (Some most) e = ltb-false most least (not-true (nat_lt most least) e)

module _ (digests : List Digest) (at : Name → Bool) (sound : (name : Name) → at name ≡ true → (k : ℕ) × HoldsBy digests k name) where
  abbrev By : ℕ → Name → Type 0
  By k = HoldsBy digests k

  rep_holds : (least : ℕ) (most : Option ℕ) (p : Part) → UpTo most least → (nat_eq least 0 ≡ true) ⊎ ((k : ℕ) × Holds (By k) p) → (k : ℕ) × Holds (By k) (rep least most p)
  rep_holds least most p u (inl z) = (0, (u, inl (eqb-true least 0 z)))
  rep_holds least most p u (inr h) = (h.0, (u, inr h.1))

  or_later : (least : ℕ) (p : Part) → (nat_eq least 0 ≡ true) ⊎ (holds at p ≡ true) → (holds at p ≡ true → (k : ℕ) × Holds (By k) p) →
      (nat_eq least 0 ≡ true) ⊎ ((k : ℕ) × Holds (By k) p)
  or_later least p (inl z) f = inl z
  or_later least p (inr e) f = inr (f e)

  first_or : (p : Part) (ps : Parts) → (holds at p ≡ true) ⊎ (some_holds at ps ≡ true) → (holds at p ≡ true → (k : ℕ) × Holds (By k) p)
      → (some_holds at ps ≡ true → (k : ℕ) × SomeHolds (By k) ps) → (k : ℕ) × SomeHolds (By k) (next p ps)
  first_or p ps (inl e) f g = let h = f e in (h.0, inl h.1)
  first_or p ps (inr e) f g = let h = g e in (h.0, inr h.1)

  both : (p : Part) (ps : Parts) → (k : ℕ) × Holds (By k) p → (k : ℕ) × EachHolds (By k) ps → (k : ℕ) × EachHolds (By k) (next p ps)
  both p ps h g =
      let most : ℕ = h.0 + g.0 in (
        most,
        (
          holds_more (By h.0) (By most) (holds_by_more digests h.0 most (omega arith)) p h.1,
          each_more (By g.0) (By most) (holds_by_more digests g.0 most (omega arith)) ps g.1,
        ),
      )

  mutual
    pub part_holds : (p : Part) → holds at p ≡ true → (k : ℕ) × Holds (By k) p
    part_holds (quoted text exact) e = (0, tt)
    part_holds (series characters) e = (0, tt)
    part_holds (span low high) e = (0, leb-true low high e)
    part_holds (seq ps) e = each_hold ps e
    part_holds (alt ps) e = some_hold ps e
    part_holds (rep least most p) e =
        let k = and_parts (not (option_map_or (λ m. nat_lt m least) most false)) (nat_eq least 0 || holds at p) e in
        rep_holds least most p (up_to least most k.0) (or_later least p (or_cases (nat_eq least 0) (holds at p) k.1) (λ h. part_holds p h))
    part_holds (ref name rule) e = sound name e
    part_holds opaque e = (0, tt)

    each_hold : (ps : Parts) → each_holds at ps ≡ true → (k : ℕ) × EachHolds (By k) ps
    each_hold end e = (0, tt)
    each_hold (next p ps) e = let k = and_parts (holds at p) (each_holds at ps) e in both p ps (part_holds p k.0) (each_hold ps k.1)

    some_hold : (ps : Parts) → some_holds at ps ≡ true → (k : ℕ) × SomeHolds (By k) ps
    some_hold end e = absurd (cc (e))
    some_hold (next p ps) e = first_or p ps (or_cases (holds at p) (some_holds at ps) e) (λ h. part_holds p h) (λ h. some_hold ps h)

  -- a name of which an alternative holds by the marks holds
  pub name_holds : (name : Name) (part : Part) → IsAlternative digests name part → holds at part ≡ true → (k : ℕ) × HoldsBy digests k name
  name_holds name part is e = let h = part_holds part e in (suc h.0, inr (part, is, h.1))

-- a name that uses a marked name leads where that one does
pub name_leads : (digests : List Digest) (at : Name → Bool) → ((name : Name) → at name ≡ true → (uses : ℕ) × LeadsToOpaqueBy digests uses name) →
    (name other : Name) (part : Part) (rule : Option ℕ) → IsAlternative digests name part → Contains (subparts part) (ref other rule) → at other ≡ true →
    (uses : ℕ) × LeadsToOpaqueBy digests uses name
name_leads digests at sound name other part rule is c e = let h = sound other e in (suc h.0, (part, is, other, rule, c, h.1))
