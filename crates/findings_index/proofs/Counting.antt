-- A digest counts exactly where its head isn't a duplicate.
use Rattle.std.proofs.Common.{◌≡◌, ⊎_elim, ℕ, zero, suc, Bool, true, false, cond, not, ◌&&◌, ◌||◌, List, [], ◌∷◌, take, Option, Some, None, option_map, refl, sym, ap, subst, ◌∙◌}
use Rattle.std.specs.Prelude.{Contains, filter, filter_map, slice_get, if◌then◌else◌}
use Rattle.std.specs.List.{list_any, cons_option}
use Rattle.std.specs.Option.{option_map_or}
use Rattle.std.specs.Str.{bytes_eq}
use Rattle.std.proofs.lemmas.Bool.{and_from, not-false}
use Rattle.std.proofs.lemmas.Option.{slice_get-get_or}
use Rattle.abnf_parts.specs.Names.{Name}
use Rattle.abnf_parts.proofs.NameLaws.{position_any, same_sym}
use Rattle.abnf_parts.proofs.NeededLaws.{any_folded}
use Rattle.abnf_digests.specs.Digests.{Digest, head_name_by, defines_by, adds_by, counted_by, defined_by}
use Rattle.abnf_digests.specs.Roles.{is_among, based_by}
use Rattle.findings_index.proofs.Elements.{first_in, later_in, first_or_later, none_in, kept, kept_back, get_contains}

-- the digest defines the name, and doesn't add to it
abbrev pub is_base : Name → Digest → Bool
is_base name digest = defines_by name digest && not (adds_by digest)

-- ---- names of heads

any_head : (name : Name) (o : Option (Name × Bool)) (names : List Name)
    → list_any (bytes_eq name) (cons_option (option_map (λ (head : Name × Bool). head.0) o) names)
    ≡ (option_map_or (λ (head : Name × Bool). bytes_eq head.0 name) o false || list_any (bytes_eq name) names)
any_head name None names = refl
any_head name (Some head) names = ap (λ b. b || list_any (bytes_eq name) names) (same_sym name head.0)

any_named : (name : Name) (digests : List Digest) → list_any (bytes_eq name) (filter_map head_name_by digests) ≡ list_any (defines_by name) digests
any_named name [] = refl
any_named name (d ∷ digests) = any_head name d.head (filter_map head_name_by digests) ∙ ap (λ b. defines_by name d || b) (any_named name digests)

pub any_defined : (name : Name) (digests : List Digest) → list_any (bytes_eq name) (defined_by digests) ≡ list_any (defines_by name) digests
any_defined name digests = any_folded (bytes_eq name) [] (filter_map head_name_by digests) ∙ any_named name digests

pub among_defined : (name : Name) (digests : List Digest) → is_among (defined_by digests) name ≡ list_any (defines_by name) digests
among_defined name digests = sym (position_any name (defined_by digests)) ∙ any_defined name digests

and_end : (a : Bool) → (a && true) ≡ a
and_end true = refl
and_end false = refl

and_none : (a : Bool) → (a && false) ≡ false
and_none true = refl
and_none false = refl

any_filtered : (test keep : Digest → Bool) (digests : List Digest) → list_any test (filter keep digests) ≡ list_any (λ d. test d && keep d) digests
any_filtered test keep [] = refl
any_filtered test keep (d ∷ digests) = by (keep d) (any_filtered test keep digests)
  where
    by : (k : Bool) → list_any test (filter keep digests) ≡ list_any (λ x. test x && keep x) digests
        → list_any test (cond k (d ∷ filter keep digests) (filter keep digests)) ≡ ((test d && k) || list_any (λ x. test x && keep x) digests)
    by true e = (λ i. sym (and_end (test d)) i || e i)
    by false e = e ∙ ap (λ b. b || list_any (λ x. test x && keep x) digests) (sym (and_none (test d)))

pub among_based : (name : Name) (digests : List Digest) → is_among (based_by digests) name ≡ list_any (is_base name) digests
among_based name digests =
    among_defined name (filter (λ d. not (adds_by d)) digests) ∙ any_filtered (defines_by name) (λ d. not (adds_by d)) digests

-- ---- digests that count

-- this digest adds, or no other before it has the name without adding
abbrev pub Counts : Name → List Digest → ℕ → Digest → Type 0
Counts name digests k digest =
    (slice_get digests k ≡ Some digest) × (defines_by name digest ≡ true) × ((not (adds_by digest) && list_any (is_base name) (take k digests)) ≡ false)

-- one base more before
fewer : (x y z : Bool) → (x && (y || z)) ≡ false → (x && z) ≡ false
fewer true true z e = absurd (cc (e))
fewer true false z e = e
fewer false y z e = refl

none_but : (x y z : Bool) → y ≡ true → (x && (y || z)) ≡ false → x ≡ false
none_but true true z f e = absurd (cc (e))
none_but true false z f e = absurd (cc (f))
none_but false y z f e = refl

more : (x y z : Bool) → y ≡ false → (x && z) ≡ false → (x && (y || z)) ≡ false
more x true z f e = absurd (cc (f))
more x false z f e = e

module _ (name : Name) where
  abbrev counted : List Digest → List Digest
  counted digests = counted_by (filter (defines_by name) digests)

  at_first : (b : Bool) (d : Digest) (rest : List Digest) → b ≡ true → Contains (counted_by (cond b (d ∷ rest) rest)) d
  at_first true d rest e = first_in d (if adds_by d then counted_by rest else filter adds_by rest)
  at_first false d rest e = absurd (cc (e))

  base_if : (d : Digest) → defines_by name d ≡ true → adds_by d ≡ false → is_base name d ≡ true
  base_if d e f = and_from (defines_by name d) (not (adds_by d)) e (ap not f)

  no_base_if : (d : Digest) → adds_by d ≡ true → is_base name d ≡ false
  no_base_if d e = ap (λ b. defines_by name d && not b) e ∙ and_none (defines_by name d)

  pub counts_there : (digests : List Digest) (k : ℕ) (d : Digest) → Counts name digests k d → Contains (counted digests) d
  counts_there [] k d c = absurd (let e = c.0 in cc (e))
  counts_there (x ∷ digests) zero d c =
      let e = c.0 in
      let same : x ≡ d = cc (e) in
      subst (λ z. Contains (counted (x ∷ digests)) z) same
      (at_first (defines_by name x) x (filter (defines_by name) digests) (ap (defines_by name) same ∙ c.1))
  counts_there (x ∷ digests) (suc k) d c =
      by (defines_by name x) refl (counts_there digests k d (c.0, c.1, fewer (not (adds_by d)) (is_base name x) (list_any (is_base name) (take k digests)) c.2))
    where
      adding : adds_by x ≡ false → defines_by name x ≡ true → adds_by d ≡ true
      adding e f = not-false (adds_by d) (none_but (not (adds_by d)) (is_base name x) (list_any (is_base name) (take k digests)) (base_if x f e) c.2)

      later_by : (a : Bool) → adds_by x ≡ a → defines_by name x ≡ true → Contains (counted digests) d
          → Contains (if a then counted digests else filter adds_by (filter (defines_by name) digests)) d
      later_by true e f further = further
      later_by false e f further =
          kept adds_by (filter (defines_by name) digests) d (adding e f) (kept (defines_by name) digests d c.1 (get_contains digests k d c.0))

      by : (b : Bool) → defines_by name x ≡ b → Contains (counted digests) d
          → Contains (counted_by (cond b (x ∷ filter (defines_by name) digests) (filter (defines_by name) digests))) d
      by true f further =
          later_in x (if adds_by x then counted digests else filter adds_by (filter (defines_by name) digests)) d (later_by (adds_by x) refl f further)
      by false f further = further

  found_at : (digests : List Digest) (d : Digest) (c : Contains digests d) → slice_get digests c.0 ≡ Some d
  found_at digests d c = slice_get-get_or digests c.0 d c.1 ∙ ap Some c.2

  pub counts_back : (digests : List Digest) (d : Digest) → Contains (counted digests) d → (k : ℕ) × Counts name digests k d
  counts_back [] d c = none_in d c
  counts_back (x ∷ digests) d c =
      by (defines_by name x) refl
      (λ e g.
      let h = counts_back digests d g in
      (suc h.0, (h.1.0, h.1.1, more (not (adds_by d)) (is_base name x) (list_any (is_base name) (take h.0 digests)) e h.1.2)))
      c
    where
      later_by : (a : Bool) → adds_by x ≡ a → (is_base name x ≡ false → Contains (counted digests) d → (k : ℕ) × Counts name (x ∷ digests) k d)
          → Contains (if a then counted digests else filter adds_by (filter (defines_by name) digests)) d → (k : ℕ) × Counts name (x ∷ digests) k d
      later_by true e further g = further (no_base_if x e) g
      later_by false e further g =
          let h = kept_back adds_by (filter (defines_by name) digests) d g in
          let n = kept_back (defines_by name) digests d h.0 in
          (suc n.0.0, (found_at digests d n.0, n.1, ap (λ b. not b && list_any (is_base name) (take (suc n.0.0) (x ∷ digests))) h.1))

      by : (b : Bool) → defines_by name x ≡ b → (is_base name x ≡ false → Contains (counted digests) d → (k : ℕ) × Counts name (x ∷ digests) k d)
          → Contains (counted_by (cond b (x ∷ filter (defines_by name) digests) (filter (defines_by name) digests))) d
          → (k : ℕ) × Counts name (x ∷ digests) k d
      by true e further g =
          ⊎_elim (λ same. (0, (ap Some same, sym (ap (defines_by name) same) ∙ e, and_none (not (adds_by d)))))
          (λ r. later_by (adds_by x) refl further r)
          (first_or_later x (if adds_by x then counted digests else filter adds_by (filter (defines_by name) digests)) d g)
      by false e further g = further (ap (λ b. b && not (adds_by x)) e) g
