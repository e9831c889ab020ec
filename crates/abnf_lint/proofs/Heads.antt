-- Which names the heads of blocks define.
use Rattle.std.proofs.Common.{◌≡◌, ◌∙◌, Bool, true, false, List, [], ◌∷◌, ◌++◌, ◌||◌, ◌⊎◌, inl, inr, refl, sym, ap, subst}
use Rattle.std.specs.Prelude.{◌↔◌, Contains, not, filter, filter_map, fold, if◌then◌else◌}
use Rattle.std.specs.List.{list_any}
use Rattle.std.specs.Str.{bytes_eq}
use Rattle.std.proofs.lemmas.List.Elements.{Contains-append_left, Contains-push, Contains-push_cases}
use Rattle.std.proofs.lemmas.Map.Views.{Contains-from_any}
use Rattle.std.proofs.lemmas.Bool.{not-true}
use Rattle.abnf_parts.specs.Names.{Name, with_name}
use Rattle.abnf_parts.proofs.NameLaws.{position_any, same_is, same_refl}
use Rattle.abnf_names.specs.Said.{Block}
use Rattle.abnf_names.specs.Rules.{adds, defined, head_name}
use Rattle.abnf_lint.specs.own.Findings.{based, has_name}
use Rattle.abnf_lint.specs.Rows.{AnyBases, AnyDefines}
use Rattle.abnf_lint.proofs.Member.{filter_in, first_in, given_in, in_cons, in_filter, in_given, later_in, none_in}

-- ---- a name among names

any_from : (names : List Name) (n : Name) → Contains names n → list_any (bytes_eq n) names ≡ true
any_from [] n h = none_in n h
any_from (m ∷ names) n h = elim (in_cons m names n h) [ inl e ↦ here (bytes_eq n m) (subst (λ x. bytes_eq n x ≡ true) (sym e) (same_refl n)) | inr r ↦ there (bytes_eq n m) (any_from names n r) ]
  where
    here : (b : Bool) → b ≡ true → (b || list_any (bytes_eq n) names) ≡ true
    here true e = refl
    here false e = absurd (cc e)

    there : (b : Bool) → list_any (bytes_eq n) names ≡ true → (b || list_any (bytes_eq n) names) ≡ true
    there true e = refl
    there false e = e

pub has_from : (names : List Name) (n : Name) → Contains names n → has_name names n ≡ true
has_from names n h = sym (position_any n names) ∙ any_from names n h

pub from_has : (names : List Name) (n : Name) → has_name names n ≡ true → Contains names n
from_has names n h = Contains-from_any same_is n names (position_any n names ∙ h)

-- ---- a name more

abbrev added : Bool → List Name → Name → List Name
added b names m = if b then names else names ++ m ∷ []

added_down : (b : Bool) (names : List Name) (m n : Name) → list_any (bytes_eq m) names ≡ b → Contains (added b names m) n → Contains names n ⊎ (m ≡ n)
added_down true names m n e h = inl h
added_down false names m n e h = Contains-push_cases names m n h

added_old : (b : Bool) (names : List Name) (m n : Name) → Contains names n → Contains (added b names m) n
added_old true names m n h = h
added_old false names m n h = Contains-append_left names (m ∷ []) n h

added_new : (b : Bool) (names : List Name) (m : Name) → list_any (bytes_eq m) names ≡ b → Contains (added b names m) m
added_new true names m e = Contains-from_any same_is m names e
added_new false names m e = Contains-push names m

-- ---- the names that are defined

fold_down : (names more : List Name) (n : Name) → Contains (fold with_name names more) n → Contains names n ⊎ Contains more n
fold_down names [] n h = inl h
fold_down names (m ∷ more) n h = elim (fold_down (with_name names m) more n h) [
  | inl k ↦ elim (added_down (list_any (bytes_eq m) names) names m n refl k) [ inl old ↦ inl old | inr e ↦ inr (subst (λ x. Contains (m ∷ more) x) e (first_in m more)) ]
  | inr k ↦ inr (later_in m more n k)
]

fold_old : (names more : List Name) (n : Name) → Contains names n → Contains (fold with_name names more) n
fold_old names [] n h = h
fold_old names (m ∷ more) n h = fold_old (with_name names m) more n (added_old (list_any (bytes_eq m) names) names m n h)

fold_new : (names more : List Name) (n : Name) → Contains more n → Contains (fold with_name names more) n
fold_new names [] n h = none_in n h
fold_new names (m ∷ more) n h = elim (in_cons m more n h) [
  | inl e ↦ fold_old (with_name names m) more n (subst (λ x. Contains (with_name names m) x) e (added_new (list_any (bytes_eq m) names) names m refl))
  | inr k ↦ fold_new (with_name names m) more n k
]

defined_down : (blocks : List Block) (n : Name) → Contains (defined blocks) n → AnyDefines blocks n
defined_down blocks n h = elim (fold_down [] (filter_map head_name blocks) n h) [ inl k ↦ none_in n k | inr k ↦ in_given head_name blocks n k ]

defined_up : (blocks : List Block) (n : Name) → AnyDefines blocks n → Contains (defined blocks) n
defined_up blocks n h = fold_new [] (filter_map head_name blocks) n (given_in head_name blocks h.0 n h.1 h.2)

pub defines_is : (blocks : List Block) (n : Name) → (has_name (defined blocks) n ≡ true) ↔ AnyDefines blocks n
defines_is blocks n = (λ h. defined_down blocks n (from_has (defined blocks) n h), λ h. has_from (defined blocks) n (defined_up blocks n h))

-- ---- by `=`

bases_down : (blocks : List Block) (n : Name) → AnyDefines (filter (λ block. not (adds block)) blocks) n → AnyBases blocks n
bases_down blocks n h = let k = in_filter (λ block. not (adds block)) blocks h.0 h.1 in (h.0, k.0, h.2, not-true (adds h.0) k.1)

bases_up : (blocks : List Block) (n : Name) → AnyBases blocks n → AnyDefines (filter (λ block. not (adds block)) blocks) n
bases_up blocks n h = (h.0, filter_in (λ block. not (adds block)) blocks h.0 h.1 (ap not h.3), h.2)

pub bases_is : (blocks : List Block) (n : Name) → (has_name (based blocks) n ≡ true) ↔ AnyBases blocks n
bases_is blocks n =
    let one = defines_is (filter (λ block. not (adds block)) blocks) n in
    (λ h. bases_down blocks n (one.0 h), λ h. one.1 (bases_up blocks n h))
