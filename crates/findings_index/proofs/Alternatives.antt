-- The rule of a name is a choice among its alternatives.
use Rattle.std.proofs.Common.{◌≡◌, ⊎_elim, inl, inr, ℕ, zero, suc, Bool, true, false, not, List, [], ◌∷◌, Option, Some, None, option_map, refl, sym, ap, subst, ◌∙◌}
use Rattle.std.specs.Prelude.{Contains, filter, flat_map, filter_map, if◌then◌else◌}
use Rattle.std.specs.List.{list_any}
use Rattle.std.specs.Option.{option_map_or}
use Rattle.std.specs.Str.{bytes_eq}
use Rattle.std.proofs.lemmas.Bool.{or_left}
use Rattle.std.proofs.lemmas.List.Elements.{Contains-append_left, Contains-append_right, Contains-append_cases}
use Rattle.abnf_parts.specs.Part.{Part, ref, subparts, all_subparts}
use Rattle.abnf_parts.specs.Tree.{parts}
use Rattle.abnf_parts.specs.Names.{Name, rule_number}
use Rattle.abnf_parts.specs.Core.{core_rules, core_name, core_needs, is_needed}
use Rattle.abnf_parts.proofs.NameLaws.{same_is, same_sym}
use Rattle.abnf_parts.proofs.NeededLaws.{any_folded}
use Rattle.abnf_lint.specs.Yields.{Yields, SomeYields}
use Rattle.abnf_digests.specs.Gists.{relinked}
use Rattle.abnf_digests.specs.Digests.{Digest, head_name_by, defines_by, adds_by, counted_by, defined_by, undefined_by, names_by, said_with, rule_by}
use Rattle.findings_index.specs.Holding.{IsOfCore, IsAlternative, HoldsBy}
use Rattle.findings_index.specs.Leading.{LeadsToOpaqueBy}
use Rattle.findings_index.proofs.Elements.{first_in, later_in, first_or_later, none_in, kept, kept_back, any_there, any_back, mapped, mapped_back, flat, flat_back, told_some}
use Rattle.findings_index.proofs.Standing.{IsOwn, own_number, core_number}

-- ---- a choice

module _ (Rule : ℕ → Type 0) where
  some_there : (ps : List Part) (p : Part) → Contains ps p → Yields Rule p → SomeYields Rule (parts ps)
  some_there [] p c y = none_in p c
  some_there (q ∷ ps) p c y = ⊎_elim (λ e. inl (subst (Yields Rule) (sym e) y)) (λ d. inr (some_there ps p d y)) (first_or_later q ps p c)

  some_back : (ps : List Part) → SomeYields Rule (parts ps) → (p : Part) × Contains ps p × Yields Rule p
  some_back [] y = absurd y
  some_back (q ∷ ps) (inl y) = (q, first_in q ps, y)
  some_back (q ∷ ps) (inr y) = let b = some_back ps y in (b.0, later_in q ps b.0 b.1, b.2)

below_there : (ps : List Part) (p x : Part) → Contains ps p → Contains (subparts p) x → Contains (all_subparts (parts ps)) x
below_there [] p x c d = none_in p c
below_there (q ∷ ps) p x c d =
    ⊎_elim (λ e. Contains-append_left (subparts q) (all_subparts (parts ps)) x (subst (λ r. Contains (subparts r) x) (sym e) d))
    (λ g. Contains-append_right (subparts q) (all_subparts (parts ps)) x (below_there ps p x g d)) (first_or_later q ps p c)

below_back : (ps : List Part) (x : Part) → Contains (all_subparts (parts ps)) x → (p : Part) × Contains ps p × Contains (subparts p) x
below_back [] x c = none_in x c
below_back (q ∷ ps) x c =
    ⊎_elim (λ d. (q, first_in q ps, d)) (λ d. let b = below_back ps x d in (b.0, later_in q ps b.0 b.1, b.2)) (Contains-append_cases (subparts q) (all_subparts (parts ps)) x c)

-- ---- digests that count

counted_if : (b : Bool) (xs ys zs : List Digest) (d : Digest) → (Contains xs d → Contains zs d) → (Contains ys d → Contains zs d)
    → Contains (if b then xs else ys) d → Contains zs d
counted_if true xs ys zs d f g c = f c
counted_if false xs ys zs d f g c = g c

counted_back : (digests : List Digest) (d : Digest) → Contains (counted_by digests) d → Contains digests d
counted_back [] d c = none_in d c
counted_back (x ∷ digests) d c =
    ⊎_elim (λ e. subst (λ y. Contains (x ∷ digests) y) e (first_in x digests))
    (λ g. later_in x digests d
    (counted_if (adds_by x) (counted_by digests) (filter adds_by digests) digests d (counted_back digests d) (λ h. (kept_back adds_by digests d h).0) g))
    (first_or_later x (if adds_by x then counted_by digests else filter adds_by digests) d c)

named_head : (name : Name) (o : Option (Name × Bool)) → option_map_or (λ (head : Name × Bool). bytes_eq head.0 name) o false ≡ true
    → (n : Name) × (option_map (λ (head : Name × Bool). head.0) o ≡ Some n) × (bytes_eq n name ≡ true)
named_head name None e = absurd (cc (e))
named_head name (Some head) e = (head.0, refl, e)

module _ (digests : List Digest) where
  abbrev pub number : Name → Option ℕ
  number = rule_number (names_by digests)

  abbrev alternatives : Name → List Part
  alternatives name = flat_map (said_with number) (counted_by (filter (defines_by name) digests))

  defined_there : (name : Name) (d : Digest) → Contains digests d → defines_by name d ≡ true → IsOwn digests name
  defined_there name d c e =
      let h = named_head name d.head e in
      any_folded (bytes_eq name) [] (filter_map head_name_by digests)
      ∙ any_there (bytes_eq name) (filter_map head_name_by digests) h.0 (told_some head_name_by digests d h.0 c h.1) (same_sym name h.0 ∙ h.2)

  of_digest : (name : Name) (part : Part) (a : IsAlternative digests name part) → Contains digests a.digest × (defines_by name a.digest ≡ true)
  of_digest name part a = kept_back (defines_by name) digests a.digest (counted_back (filter (defines_by name) digests) a.digest a.counts)

  -- a name with an alternative is defined
  pub alternative_own : (name : Name) (part : Part) → IsAlternative digests name part → IsOwn digests name
  alternative_own name part a = let h = of_digest name part a in defined_there name a.digest h.0 h.1

  alternative_there : (name : Name) (part : Part) → IsAlternative digests name part → Contains (alternatives name) (relinked number part)
  alternative_there name part a =
      flat (said_with number) (counted_by (filter (defines_by name) digests)) a.digest (relinked number part) a.counts (mapped (relinked number) a.digest.said part a.says)

  alternative_back : (name : Name) (p : Part) → Contains (alternatives name) p → (part : Part) × IsAlternative digests name part × (relinked number part ≡ p)
  alternative_back name p c =
      let f = flat_back (said_with number) (counted_by (filter (defines_by name) digests)) p c in
      let m = mapped_back (relinked number) f.0.said p f.2 in
      (m.0, record { digest = f.0; counts = f.1; says = m.1 }, m.2)

  -- ---- what a name's rule yields, and what stands in it

  module _ (Rule : ℕ → Type 0) (name : Name) where
    pub rule_yields : (part : Part) → IsAlternative digests name part → Yields Rule (relinked number part) → Yields Rule (rule_by digests name)
    rule_yields part a y = some_there Rule (alternatives name) (relinked number part) (alternative_there name part a) y

    pub yields_back : Yields Rule (rule_by digests name) → (part : Part) × IsAlternative digests name part × Yields Rule (relinked number part)
    yields_back y =
        let s = some_back Rule (alternatives name) y in
        let b = alternative_back name s.0 s.1 in
        (b.0, b.1, subst (Yields Rule) (sym b.2) s.2)

  pub in_rule : (name : Name) (part x : Part) → IsAlternative digests name part → Contains (subparts (relinked number part)) x → Contains (subparts (rule_by digests name)) x
  in_rule name part x a c =
      later_in (rule_by digests name) (all_subparts (parts (alternatives name))) x (below_there (alternatives name) (relinked number part) x (alternative_there name part a) c)

  pub in_rule_back : (name : Name) (x : Part) → (rule_by digests name ≡ x → ⊥) → Contains (subparts (rule_by digests name)) x
      → (part : Part) × IsAlternative digests name part × Contains (subparts (relinked number part)) x
  in_rule_back name x n c =
      let b = ⊎_elim (λ e. absurd (n e)) (below_back (alternatives name) x) (first_or_later (rule_by digests name) (all_subparts (parts (alternatives name))) x c) in
      let a = alternative_back name b.0 b.1 in
      (a.0, a.1, subst (λ p. Contains (subparts p) x) (sym a.2) b.2)

  -- ---- names that are used

  needs_itself : (steps : ℕ) (name other : Name) → bytes_eq other name ≡ true → list_any (bytes_eq other) (core_needs steps name) ≡ true
  needs_itself zero name other e = or_left (bytes_eq other name) _ e
  needs_itself (suc steps) name other e = or_left (bytes_eq other name) _ e

  -- blocks use each name that their rules mention
  abbrev pub AllUsed : Type 0
  AllUsed = (digest : Digest) → Contains digests digest → (part : Part) → Contains digest.said part → (name : Name) (rule : Option ℕ) → Contains (subparts part) (ref name rule)
      → Contains digest.uses name

  module _ (used : AllUsed) (name : Name) (part : Part) (a : IsAlternative digests name part) (other : Name) (rule : Option ℕ)
      (there : Contains (subparts part) (ref other rule)) where
    core_stands : IsOfCore digests other → (q : ℕ) × (number other ≡ Some q)
    core_stands h =
        let in_digest = (of_digest name part a).0 in
        let all_uses = flat_map (λ (digest : Digest). digest.uses) digests in
        let is_used : Contains all_uses other = flat (λ (digest : Digest). digest.uses) digests a.digest other in_digest (used a.digest in_digest part a.says other rule there) in
        let undefined : Contains (undefined_by digests) other = kept (λ n. not (list_any (bytes_eq n) (defined_by digests))) all_uses other (ap not h.1) is_used in
        let c = any_back (λ core. bytes_eq (core_name core) other) core_rules h.0 in
        let wanted : is_needed (undefined_by digests) c.0 ≡ true =
        any_there (λ n. list_any (bytes_eq (core_name c.0)) (core_needs 16 n)) (undefined_by digests) other undefined (needs_itself 16 other (core_name c.0) c.2) in
        let same : core_name c.0 ≡ other = same_is (core_name c.0) other c.2 in
        let q = core_number digests c.0 (kept (is_needed (undefined_by digests)) core_rules c.0 wanted c.1) (ap (λ n. list_any (bytes_eq n) (defined_by digests)) same ∙ h.1) in
        (q.0, ap number (sym same) ∙ q.1)

    -- a name that holds stands for a rule, where a block that says so uses it
    pub held_stands : (k : ℕ) → HoldsBy digests k other → (q : ℕ) × (number other ≡ Some q)
    held_stands zero h = absurd h
    held_stands (suc k) (inl h) = core_stands h
    held_stands (suc k) (inr h) = own_number digests other (alternative_own other h.0 h.1)

  pub leads_own : (uses : ℕ) (name : Name) → LeadsToOpaqueBy digests uses name → IsOwn digests name
  leads_own zero name h = alternative_own name h.0 h.1
  leads_own (suc uses) name h = alternative_own name h.0 h.1
