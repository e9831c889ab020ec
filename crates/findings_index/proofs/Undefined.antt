-- A name that stands in a block stands for no rule exactly where no block defines it and no core rule has it.
use Rattle.std.proofs.Common.{◌≡◌, Bool, true, false, not, cond, List, [], ◌∷◌, inl, inr, map, None, refl, sym, ap, ◌∙◌}
use Rattle.std.specs.Prelude.{◌↔◌, ◌||◌, filter, Contains}
use Rattle.std.specs.List.{list_any}
use Rattle.std.specs.Option.{is_some}
use Rattle.std.specs.Str.{bytes_eq}
use Rattle.std.proofs.lemmas.Bool.{or_left, or_right}
use Rattle.std.proofs.lemmas.List.Folds.{list_any-append}
use Rattle.abnf_token.specs.Folded.{lowercase}
use Rattle.abnf_parts.specs.Names.{Name, rule_number}
use Rattle.abnf_parts.specs.Core.{CoreRule, core_rules, core_name, core_needs, is_needed}
use Rattle.abnf_parts.proofs.NameLaws.{never, position_any, no_place, same_sym}
use Rattle.abnf_names.specs.Said.{Block}
use Rattle.abnf_names.specs.Places.{Named, places_in, places_of}
use Rattle.abnf_names.specs.Rules.{defined, undefined, needed, names_of}
use Rattle.abnf_lint.proofs.Member.{none_in, in_cons, flat_in, filter_in}
use Rattle.abnf_digests.specs.Digests.{digest_of}
use Rattle.abnf_digests.proofs.Heads.{defined_is}
use Rattle.abnf_digests.proofs.NoRows.{map_in}
use Rattle.findings_index.specs.Holding.{IsStrange}

-- ---- tests of lists

module _ {X : Type 0} (test : X → Bool) where
  any_of : (xs : List X) (x : X) → Contains xs x → test x ≡ true → list_any test xs ≡ true
  any_of [] x h t = none_in x h
  any_of (y ∷ xs) x h t = elim (in_cons y xs x h) [
    | inl e ↦ or_left (test y) (list_any test xs) (ap test e ∙ t)
    | inr r ↦ or_right (test y) (list_any test xs) (any_of xs x r t)
  ]

neither : (a b : Bool) → a ≡ false → b ≡ false → (a || b) ≡ false
neither true b e f = e
neither false b e f = f

pub left_false : (a b : Bool) → (a || b) ≡ false → a ≡ false
left_false true b e = e
left_false false b e = refl

pub right_false : (a b : Bool) → (a || b) ≡ false → b ≡ false
right_false true b e = absurd (cc (e))
right_false false b e = e

-- ---- a name among those of some core rules

module _ (keep : CoreRule → Bool) (name : Name) where
  abbrev has : CoreRule → Bool
  has core = bytes_eq (core_name core) name

  kept_by : (c : Bool) (core : CoreRule) (cores : List CoreRule) → has core ≡ false → list_any (bytes_eq name) (map core_name (filter keep cores)) ≡ false →
      list_any (bytes_eq name) (map core_name (cond c (core ∷ filter keep cores) (filter keep cores))) ≡ false
  kept_by true core cores e rest = neither (bytes_eq name (core_name core)) _ (same_sym name (core_name core) ∙ e) rest
  kept_by false core cores e rest = rest

  none_kept : (cores : List CoreRule) → list_any has cores ≡ false → list_any (bytes_eq name) (map core_name (filter keep cores)) ≡ false
  none_kept [] h = refl
  none_kept (core ∷ cores) h =
      kept_by (keep core) core cores (left_false (has core) (list_any has cores) h) (none_kept cores (right_false (has core) (list_any has cores) h))

  -- where those that have the name are kept
  module _ (kept : (core : CoreRule) → has core ≡ true → keep core ≡ true) where
    any_by : (b c : Bool) (core : CoreRule) (cores : List CoreRule) → has core ≡ b → keep core ≡ c →
        (list_any (bytes_eq name) (map core_name (filter keep cores)) ≡ false → list_any has cores ≡ false) →
        list_any (bytes_eq name) (map core_name (cond c (core ∷ filter keep cores) (filter keep cores))) ≡ false → (b || list_any has cores) ≡ false
    any_by true true core cores e f rest g = never (bytes_eq name (core_name core)) (same_sym name (core_name core) ∙ e) (left_false (bytes_eq name (core_name core)) _ g)
    any_by true false core cores e f rest g = never (keep core) (kept core e) f
    any_by false true core cores e f rest g = rest (right_false (bytes_eq name (core_name core)) _ g)
    any_by false false core cores e f rest g = rest g

    any_kept : (cores : List CoreRule) → list_any (bytes_eq name) (map core_name (filter keep cores)) ≡ false → list_any has cores ≡ false
    any_kept [] h = refl
    any_kept (core ∷ cores) h = any_by (has core) (keep core) core cores refl refl (any_kept cores) h

-- ---- names that stand in a block

none_at : (name : Name) (names : List Name) → rule_number names name ≡ None → list_any (bytes_eq name) names ≡ false
none_at name names h = position_any name names ∙ ap is_some h

needs_itself : (core : CoreRule) (name : Name) → bytes_eq (core_name core) name ≡ true → list_any (bytes_eq (core_name core)) (core_needs 16 name) ≡ true
needs_itself core name e = or_left (bytes_eq (core_name core) name) _ e

module _ (blocks : List Block) (block : Block) (named : Named) (here : Contains blocks block) (at : Contains (places_in block.items) named) where
  abbrev called : Name
  called = lowercase named.text

  stands : list_any (bytes_eq called) (defined blocks) ≡ false → Contains (undefined blocks) called
  stands none =
      filter_in (λ name. not (list_any (bytes_eq name) (defined blocks))) (map (λ place. lowercase place.text) (places_of blocks)) called
      (map_in (λ (place : Named). lowercase place.text) (places_of blocks) named (flat_in (λ (b : Block). places_in b.items) blocks block named here at)) (ap not none)

  wanted : list_any (bytes_eq called) (defined blocks) ≡ false → (core : CoreRule) → bytes_eq (core_name core) called ≡ true → is_needed (undefined blocks) core ≡ true
  wanted none core e = any_of (λ name. list_any (bytes_eq (core_name core)) (core_needs 16 name)) (undefined blocks) called (stands none) (needs_itself core called e)

  strange_if_none : rule_number (names_of blocks) called ≡ None → IsStrange (map digest_of blocks) called
  strange_if_none h =
      let both : (list_any (bytes_eq called) (defined blocks) || list_any (bytes_eq called) (map core_name (needed blocks))) ≡ false =
      sym (list_any-append (bytes_eq called) (defined blocks) (map core_name (needed blocks))) ∙ none_at called (names_of blocks) h in
      let none = left_false (list_any (bytes_eq called) (defined blocks)) _ both in (
        any_kept (is_needed (undefined blocks)) called (wanted none) core_rules (right_false (list_any (bytes_eq called) (defined blocks)) _ both),
        ap (λ own. list_any (bytes_eq called) own) (defined_is blocks) ∙ none,
      )

  none_if_strange : IsStrange (map digest_of blocks) called → rule_number (names_of blocks) called ≡ None
  none_if_strange h =
      let none : list_any (bytes_eq called) (defined blocks) ≡ false = ap (λ own. list_any (bytes_eq called) own) (sym (defined_is blocks)) ∙ h.1 in
      sym (no_place called (names_of blocks)
      (list_any-append (bytes_eq called) (defined blocks) (map core_name (needed blocks))
      ∙ neither (list_any (bytes_eq called) (defined blocks)) _ none (none_kept (is_needed (undefined blocks)) called core_rules h.0)))

  pub for_nothing : (rule_number (names_of blocks) called ≡ None) ↔ IsStrange (map digest_of blocks) called
  for_nothing = (strange_if_none, none_if_strange)
