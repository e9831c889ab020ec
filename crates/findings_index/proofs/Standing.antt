-- Which rule a name stands for, by digests: that of the name, where a block defines it, else a needed core rule.
use Rattle.std.proofs.Common.{◌≡◌, ◌≤◌, ◌+◌, ◌⊎◌, inl, inr, ℕ, true, false, List, length, map, Option, Some, None, option_map, refl, sym, ap, ◌∙◌, arith}
use Rattle.std.specs.Prelude.{Contains, slice_get, position}
use Rattle.std.specs.List.{list_any}
use Rattle.std.specs.Option.{is_some}
use Rattle.std.specs.Str.{bytes_eq}
use Rattle.std.proofs.lemmas.List.{length-map}
use Rattle.std.proofs.lemmas.Option.{same_Some}
use Rattle.abnf_parts.specs.Names.{Name, rule_number}
use Rattle.abnf_parts.specs.Core.{CoreRule, core_name}
use Rattle.abnf_parts.proofs.NameLaws.{position_any, position_append, behind}
use Rattle.abnf_rename.proofs.NameLaws.{number_get}
use Rattle.abnf_digests.specs.Digests.{Digest, defined_by, needed_by, names_by, core_number_by, rule_by, core_by, rules_by}
use Rattle.abnf_rename.proofs.MappedTrees.{get_back, get_there}
use Rattle.findings_index.proofs.Elements.{name_there, mapped, get_front, get_behind, get_contains}

some_place : (o : Option ℕ) → is_some o ≡ true → (q : ℕ) × (o ≡ Some q)
some_place None h = absurd (cc (h))
some_place (Some q) h = (q, refl)

place_there : (names : List Name) (name : Name) → list_any (bytes_eq name) names ≡ true → (q : ℕ) × (position (bytes_eq name) names ≡ Some q)
place_there names name h = some_place (position (bytes_eq name) names) (sym (position_any name names) ∙ h)

module _ (digests : List Digest) where
  abbrev own : List Name
  own = defined_by digests

  abbrev core_names : List Name
  core_names = map core_name (needed_by digests)

  -- a block defines the name
  abbrev pub IsOwn : Name → Type 0
  IsOwn name = list_any (bytes_eq name) own ≡ true

  pub record IsOwnRule (name : Name) (r : ℕ) : Type 0 where
    pub own : IsOwn name
    pub is : slice_get (rules_by digests) r ≡ Some (rule_by digests name)

  -- rule r is a core rule of this name
  pub record IsInner (name : Name) (r : ℕ) : Type 0 where
    pub core : CoreRule
    pub needed : Contains (needed_by digests) core
    pub named : core_name core ≡ name
    pub is : slice_get (rules_by digests) r ≡ Some (core_by digests core)
    pub last : length (defined_by digests) ≤ r

  pub record IsCoreRule (name : Name) (r : ℕ) : Type 0 where
    pub other : list_any (bytes_eq name) own ≡ false
    pub inner : IsInner name r

  inner_at : (name : Name) (j r : ℕ) → rule_number core_names name ≡ Some j → length own + j ≡ r → IsInner name r
  inner_at name j r e g =
      let b = get_back core_name (needed_by digests) j name (number_get name core_names j e) in
      record {
        core = b.0;
        needed = get_contains (needed_by digests) j b.0 b.1;
        named = b.2;
        is = get_behind (map (rule_by digests) own) (map (core_by digests) (needed_by digests)) j r (core_by digests b.0)
            (ap (λ n. n + j) (length-map own (rule_by digests)) ∙ g) (get_there (core_by digests) (needed_by digests) j b.0 b.1);
        last = omega (arith, g);
      }

  inner_by : (name : Name) (o : Option ℕ) (r : ℕ) → rule_number core_names name ≡ o → option_map (λ j. length own + j) o ≡ Some r → IsInner name r
  inner_by name None r e g = absurd (cc (g))
  inner_by name (Some j) r e g = inner_at name j r e (same_Some (length own + j) r g)

  -- inside the core rules names stand for core rules
  pub inner_rule : (name : Name) (r : ℕ) → core_number_by digests name ≡ Some r → IsInner name r
  inner_rule name r e = inner_by name (rule_number core_names name) r refl e

  stands_by : (name : Name) (o : Option ℕ) (r : ℕ) → position (bytes_eq name) own ≡ o
      → behind (bytes_eq name) (length own) o (position (bytes_eq name) core_names) ≡ Some r → IsOwnRule name r ⊎ IsCoreRule name r
  stands_by name (Some i) r e g =
      let same : position (bytes_eq name) own ≡ Some r = e ∙ g in
      inl (record {
        own = position_any name own ∙ ap is_some same;
        is = get_front (map (rule_by digests) own) (map (core_by digests) (needed_by digests)) r (rule_by digests name)
            (get_there (rule_by digests) own r name (number_get name own r same));
      })
  stands_by name None r e g =
      inr (record {
        other = position_any name own ∙ ap is_some e;
        inner = inner_by name (position (bytes_eq name) core_names) r refl g;
      })

  pub stands : (name : Name) (r : ℕ) → rule_number (names_by digests) name ≡ Some r → IsOwnRule name r ⊎ IsCoreRule name r
  stands name r e = stands_by name (position (bytes_eq name) own) r refl (sym (position_append (bytes_eq name) own core_names) ∙ e)

  -- ---- names that stand for a rule

  pub own_number : (name : Name) → IsOwn name → (r : ℕ) × (rule_number (names_by digests) name ≡ Some r)
  own_number name h =
      let p = place_there own name h in
      (p.0, position_append (bytes_eq name) own core_names ∙ ap (λ o. behind (bytes_eq name) (length own) o (position (bytes_eq name) core_names)) p.1)

  core_place : (core : CoreRule) → Contains (needed_by digests) core → (j : ℕ) × (rule_number core_names (core_name core) ≡ Some j)
  core_place core c = place_there core_names (core_name core) (name_there core_names (core_name core) (mapped core_name (needed_by digests) core c))

  pub inner_number : (core : CoreRule) → Contains (needed_by digests) core → (r : ℕ) × (core_number_by digests (core_name core) ≡ Some r)
  inner_number core c = let p = core_place core c in (length own + p.0, ap (option_map (λ j. length own + j)) p.1)

  no_place : (o : Option ℕ) → is_some o ≡ false → o ≡ None
  no_place None h = refl
  no_place (Some q) h = absurd (cc (h))

  pub core_number : (core : CoreRule) → Contains (needed_by digests) core → list_any (bytes_eq (core_name core)) own ≡ false
      → (r : ℕ) × (rule_number (names_by digests) (core_name core) ≡ Some r)
  core_number core c h =
      let p = core_place core c in
      let none = no_place (position (bytes_eq (core_name core)) own) (sym (position_any (core_name core) own) ∙ h) in (
        length own + p.0,
        position_append (bytes_eq (core_name core)) own core_names ∙ (λ i. behind (bytes_eq (core_name core)) (length own) (none i) (p.1 i)),
      )
