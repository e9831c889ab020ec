-- A gist yields something where its part does, and leads to the same rules and opaque parts.
use Rattle.std.proofs.Common.{◌≡◌, ℕ, zero, suc, ◌≤◌, ◌⊎◌, inl, inr, Bool, true, false, Option, Some, None, List, [], ◌∷◌, ◌++◌, map, refl, sym, ap, subst, ◌∙◌, arith}
use Rattle.std.specs.Prelude.{◌↔◌, if◌then◌else◌, nat_le}
use Rattle.std.proofs.lemmas.Bool.{le-leb, leb-true, le-ltb, ltb-false}
use Rattle.std.proofs.lemmas.List.{map-append}
use Rattle.abnf_token.specs.Folded.{lowercase}
use Rattle.abnf_parts.specs.Part.{Part, Parts, quoted, series, span, seq, alt, rep, ref, opaque, end, next, subparts, all_subparts}
use Rattle.abnf_parts.specs.Generates.{UpTo}
use Rattle.abnf_parts.specs.Reach.{ReachesOpaque}
use Rattle.abnf_lint.specs.Yields.{Yields, EachYields, SomeYields, RuleYields}
use Rattle.abnf_lint.specs.Empty.{is_above}
use Rattle.abnf_rename.proofs.MappedTrees as mapped
use Rattle.abnf_rename.proofs.MappedTrees.{KeepsParts, get_back, get_there, uses_there, uses_back}
use Rattle.abnf_digests.specs.Gists.{something, nothing, repeated_gist, gist, gists, IsLike}

-- ---- what yields something

not_empty : (least : ℕ) (most : Option ℕ) → UpTo most least → is_above least most ≡ false
not_empty least None u = refl
not_empty least (Some most) u = le-ltb most least u

up_to : (least : ℕ) (most : Option ℕ) → is_above least most ≡ false → UpTo most least
up_to least None e = tt
up_to least (Some most) e = ltb-false most least e

module _ (R S : ℕ → Type 0) (to : (q : ℕ) → R q → S q) where
  span_to : (b : Bool) → b ≡ true → Yields S (if b then something else nothing)
  span_to true e = tt
  span_to false e = absurd (cc (e))

  repeated_to : (b : Bool) (least : ℕ) (P : Type 0) (body : Part) → (P → Yields S body) → b ≡ false → (least ≡ 0) ⊎ P → Yields S (repeated_gist b least body)
  repeated_to true least P body f e y = absurd (cc (e))
  repeated_to false zero P body f e y = (tt, inl refl)
  repeated_to false (suc n) P body f e (inl z) = absurd (omega (arith, z))
  repeated_to false (suc n) P body f e (inr y) = (tt, inr (f y))

  mutual
    pub gist_yields : (p : Part) → Yields R p → Yields S (gist p)
    gist_yields (quoted text exact) y = tt
    gist_yields (series characters) y = tt
    gist_yields (span low high) y = span_to (nat_le low high) (le-leb low high y)
    gist_yields (seq ps) y = gists_yield ps y
    gist_yields (alt ps) y = some_gist_yields ps y
    gist_yields (rep least most p) y =
        repeated_to (is_above least most) least (Yields R p) (gist p) (λ z. gist_yields p z) (not_empty least most y.0) y.1
    gist_yields (ref name None) y = y
    gist_yields (ref name (Some q)) y = to q y
    gist_yields opaque y = y

    gists_yield : (ps : Parts) → EachYields R ps → EachYields S (gists ps)
    gists_yield end y = tt
    gists_yield (next p ps) y = (gist_yields p y.0, gists_yield ps y.1)

    some_gist_yields : (ps : Parts) → SomeYields R ps → SomeYields S (gists ps)
    some_gist_yields end y = y
    some_gist_yields (next p ps) (inl y) = inl (gist_yields p y)
    some_gist_yields (next p ps) (inr y) = inr (some_gist_yields ps y)

module _ (R S : ℕ → Type 0) (from : (q : ℕ) → S q → R q) where
  span_from : (low high : ℕ) (b : Bool) → nat_le low high ≡ b → Yields S (if b then something else nothing) → low ≤ high
  span_from low high true e y = leb-true low high e
  span_from low high false e y = absurd y

  repeated_from : (least : ℕ) (most : Option ℕ) (b : Bool) (P : Type 0) (body : Part) → (Yields S body → P) → is_above least most ≡ b
      → Yields S (repeated_gist b least body) → UpTo most least × ((least ≡ 0) ⊎ P)
  repeated_from least most true P body f e y = absurd (omega (arith, y.0))
  repeated_from zero most false P body f e y = (up_to zero most e, inl refl)
  repeated_from (suc n) most false P body f e (u, inl z) = absurd (omega (arith, z))
  repeated_from (suc n) most false P body f e (u, inr y) = (up_to (suc n) most e, inr (f y))

  mutual
    pub yields_by_gist : (p : Part) → Yields S (gist p) → Yields R p
    yields_by_gist (quoted text exact) y = tt
    yields_by_gist (series characters) y = tt
    yields_by_gist (span low high) y = span_from low high (nat_le low high) refl y
    yields_by_gist (seq ps) y = yield_by_gists ps y
    yields_by_gist (alt ps) y = some_yields_by_gist ps y
    yields_by_gist (rep least most p) y =
        repeated_from least most (is_above least most) (Yields R p) (gist p) (λ z. yields_by_gist p z) refl y
    yields_by_gist (ref name None) y = y
    yields_by_gist (ref name (Some q)) y = from q y
    yields_by_gist opaque y = y

    yield_by_gists : (ps : Parts) → EachYields S (gists ps) → EachYields R ps
    yield_by_gists end y = tt
    yield_by_gists (next p ps) y = (yields_by_gist p y.0, yield_by_gists ps y.1)

    some_yields_by_gist : (ps : Parts) → SomeYields S (gists ps) → SomeYields R ps
    some_yields_by_gist end y = y
    some_yields_by_gist (next p ps) (inl y) = inl (yields_by_gist p y)
    some_yields_by_gist (next p ps) (inr y) = inr (some_yields_by_gist ps y)

-- ---- what stands in a part

span_parts : (b : Bool) → subparts (if b then something else nothing) ≡ (if b then something else nothing) ∷ []
span_parts true = refl
span_parts false = refl

repeated_parts : (b : Bool) (least : ℕ) (body : Part) → subparts (repeated_gist b least body) ≡ repeated_gist b least body ∷ subparts body
repeated_parts true least body = refl
repeated_parts false zero body = refl
repeated_parts false (suc n) body = refl

mutual
  gist_parts : (p : Part) → subparts (gist p) ≡ map gist (subparts p)
  gist_parts (quoted text exact) = refl
  gist_parts (series characters) = refl
  gist_parts (span low high) = span_parts (nat_le low high)
  gist_parts (seq ps) = ap (λ l. seq (gists ps) ∷ l) (gists_parts ps)
  gist_parts (alt ps) = ap (λ l. alt (gists ps) ∷ l) (gists_parts ps)
  gist_parts (rep least most p) =
      repeated_parts (is_above least most) least (gist p)
      ∙ ap (λ l. repeated_gist (is_above least most) least (gist p) ∷ l) (gist_parts p)
  gist_parts (ref name rule) = refl
  gist_parts opaque = refl

  gists_parts : (ps : Parts) → all_subparts (gists ps) ≡ map gist (all_subparts ps)
  gists_parts end = refl
  gists_parts (next p ps) = (λ i. gist_parts p i ++ gists_parts ps i) ∙ sym (map-append gist (subparts p) (all_subparts ps))

span_not_opaque : (b : Bool) → (if b then something else nothing) ≡ opaque → ⊥
span_not_opaque true e = absurd (cc (e))
span_not_opaque false e = absurd (cc (e))

repeated_not_opaque : (b : Bool) (least : ℕ) (body : Part) → repeated_gist b least body ≡ opaque → ⊥
repeated_not_opaque true least body e = absurd (cc (e))
repeated_not_opaque false zero body e = absurd (cc (e))
repeated_not_opaque false (suc n) body e = absurd (cc (e))

opaque_back : (p : Part) → gist p ≡ opaque → p ≡ opaque
opaque_back (quoted text exact) e = absurd (cc (e))
opaque_back (series characters) e = absurd (cc (e))
opaque_back (span low high) e = absurd (span_not_opaque (nat_le low high) e)
opaque_back (seq ps) e = absurd (cc (e))
opaque_back (alt ps) e = absurd (cc (e))
opaque_back (rep least most p) e = absurd (repeated_not_opaque (is_above least most) least (gist p) e)
opaque_back (ref name rule) e = absurd (cc (e))
opaque_back opaque e = refl

span_not_ref : (b : Bool) (name : List ℕ) (q : Option ℕ) → (if b then something else nothing) ≡ ref name q → ⊥
span_not_ref true name q e = absurd (cc (e))
span_not_ref false name q e = absurd (cc (e))

repeated_not_ref : (b : Bool) (least : ℕ) (body : Part) (name : List ℕ) (q : Option ℕ) → repeated_gist b least body ≡ ref name q → ⊥
repeated_not_ref true least body name q e = absurd (cc (e))
repeated_not_ref false zero body name q e = absurd (cc (e))
repeated_not_ref false (suc n) body name q e = absurd (cc (e))

ref_back : (p : Part) (name : List ℕ) (q : ℕ) → gist p ≡ ref name (Some q) → (other : List ℕ) × (p ≡ ref other (Some q))
ref_back (quoted text exact) name q e = absurd (cc (e))
ref_back (series characters) name q e = absurd (cc (e))
ref_back (span low high) name q e = absurd (span_not_ref (nat_le low high) name (Some q) e)
ref_back (seq ps) name q e = absurd (cc (e))
ref_back (alt ps) name q e = absurd (cc (e))
ref_back (rep least most p) name q e = absurd (repeated_not_ref (is_above least most) least (gist p) name (Some q) e)
ref_back (ref other rule) name q e = let same : rule ≡ Some q = cc (e) in (other, ap (ref other) same)
ref_back opaque name q e = absurd (cc (e))

keeps_parts : KeepsParts gist
keeps_parts = record {
  inside = gist_parts;
  opaque_to = refl;
  opaque_from = opaque_back;
  ref_to = λ name q. (lowercase name, refl);
  ref_from = ref_back;
}

pub gists_alike : (rules : List Part) (p : Part) → IsLike rules p (gist p)
gists_alike rules p = record {
  yields = λ k. (gist_yields (RuleYields rules k) (RuleYields rules k) (λ q y. y) p, yields_by_gist (RuleYields rules k) (RuleYields rules k) (λ q y. y) p);
  has_opaque = (mapped.opaque_there gist keeps_parts p, mapped.opaque_back gist keeps_parts p);
  uses = λ q. (uses_there gist keeps_parts p q, uses_back gist keeps_parts p q);
}

-- ---- rules

module _ (rules : List Part) where
  pub rule_to : (k r : ℕ) → RuleYields rules k r → RuleYields (map gist rules) k r
  rule_to zero r y = absurd y
  rule_to (suc k) r y = (gist y.0, get_there gist rules r y.0 y.1, gist_yields (RuleYields rules k) (RuleYields (map gist rules) k) (rule_to k) y.0 y.2)

  pub rule_from : (k r : ℕ) → RuleYields (map gist rules) k r → RuleYields rules k r
  rule_from zero r y = absurd y
  rule_from (suc k) r y =
      let b = get_back gist rules r y.0 y.1 in
      let again : Yields (RuleYields (map gist rules) k) (gist b.0) = subst (λ p. Yields (RuleYields (map gist rules) k) p) (sym b.2) y.2 in
      (b.0, b.1, yields_by_gist (RuleYields rules k) (RuleYields (map gist rules) k) (rule_from k) b.0 again)

  pub reaches : (r : ℕ) → ReachesOpaque rules r ↔ ReachesOpaque (map gist rules) r
  reaches r = mapped.reaches gist keeps_parts rules r
