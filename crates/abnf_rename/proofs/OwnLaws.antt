-- The names that a text defines, each once.
use Rattle.std.proofs.Common.{◌≡◌, ℕ, zero, suc, ◌<◌, Bool, true, false, List, [], ◌∷◌, ◌++◌, length, map, Option, Some, None, option_map, refl, sym, ap, subst, ◌∙◌, arith}
use Rattle.std.specs.Prelude.{if◌then◌else◌, position, slice_set}
use Rattle.std.specs.List.{list_any}
use Rattle.std.specs.Option.{is_some}
use Rattle.std.specs.Str.{bytes_eq}
use Rattle.std.proofs.lemmas.Option.{slice_get_within}
use Rattle.std.proofs.lemmas.Bool.{or_parts}
use Rattle.abnf_token.specs.Classes.{Text}
use Rattle.abnf_token.specs.Folded.{lowercase}
use Rattle.abnf_parts.specs.Names.{Name, rule_number}
use Rattle.abnf_parts.proofs.NameLaws.{position_cons, position_append, behind, never, same_is, position_any}
use Rattle.abnf_rename.specs.Rules.{name_after}
use Rattle.abnf_names.proofs.Once.{IsOnce}
use Rattle.abnf_rename.proofs.NameLaws.{number_get}

-- the place of a name that is there
abbrev Place : Name → List Name → Type 0
Place old names = (i : ℕ) × (position (bytes_eq old) names ≡ Some i)

place_by : (old : Name) (names : List Name) (o : Option ℕ) → position (bytes_eq old) names ≡ o → is_some o ≡ true → Place old names
place_by old names None e h = never false h refl
place_by old names (Some i) e h = (i, e)

pub record OwnRule (old : Name) (own core : List Name) : Type 0 where
  pub rule : ℕ
  pub own_is : position (bytes_eq old) own ≡ Some rule
  pub is : rule_number (own ++ core) old ≡ Some rule
  pub within : rule < length own

pub own_rule : (old : Name) (own core : List Name) → list_any (bytes_eq old) own ≡ true → OwnRule old own core
own_rule old own core there =
    let p = place_by old own (position (bytes_eq old) own) refl (sym (position_any old own) ∙ there) in
    record {
      rule = p.0;
      own_is = p.1;
      is = position_append (bytes_eq old) own core ∙ ap (λ o. behind (bytes_eq old) (length own) o (position (bytes_eq old) core)) p.1;
      within = slice_get_within own p.0 old (number_get old own p.0 p.1);
    }

-- ---- the list of names with the one replaced

module _ (old : Name) (new : Text) where
  others_kept : (names : List Name) → list_any (bytes_eq old) names ≡ false → map (name_after old new) names ≡ names
  others_kept [] e = refl
  others_kept (n ∷ names) e =
      let h = or_parts (bytes_eq old n) (list_any (bytes_eq old) names) e in
      (λ i. (let s : name_after old new n ≡ n = ap (λ b. if b then lowercase new else n) h.0 in s) i ∷ others_kept names h.1 i)

  get_suc : (n : Name) (names : List Name) (o : Option ℕ) (i : ℕ) → ((k : ℕ) → o ≡ Some k → map (name_after old new) names ≡ slice_set names k (lowercase new)) → option_map suc o ≡ Some i →
      n ∷ map (name_after old new) names ≡ slice_set (n ∷ names) i (lowercase new)
  get_suc n names None i h e = absurd (cc)
  get_suc n names (Some k) i h e = ap (λ l. n ∷ l) (h k refl) ∙ ap (λ j. slice_set (n ∷ names) j (lowercase new)) (let x : suc k ≡ i = cc in x)

  pub one_replaced : (names : List Name) → IsOnce names → (i : ℕ) → position (bytes_eq old) names ≡ Some i → map (name_after old new) names ≡ slice_set names i (lowercase new)
  one_replaced [] o i e = absurd (cc)
  one_replaced (n ∷ names) o i e = by (λ k f. one_replaced names o.1 k f) (bytes_eq old n) refl (sym (position_cons (bytes_eq old) n names) ∙ e)
    where
      by : ((k : ℕ) → position (bytes_eq old) names ≡ Some k → map (name_after old new) names ≡ slice_set names k (lowercase new)) → (b : Bool) → bytes_eq old n ≡ b → (if b then Some 0 else option_map suc (position (bytes_eq old) names)) ≡ Some i →
          name_after old new n ∷ map (name_after old new) names ≡ slice_set (n ∷ names) i (lowercase new)
      by more true s h =
          let zero_is : 0 ≡ i = cc in
          let same : old ≡ n = same_is old n s in
          (λ j. (let x : name_after old new n ≡ lowercase new = ap (λ b. if b then lowercase new else n) s in x) j ∷ others_kept names (subst (λ m. list_any (bytes_eq m) names ≡ false) (sym same) o.0) j)
          ∙ ap (λ j. slice_set (n ∷ names) j (lowercase new)) zero_is
      by more false s h =
          ap (λ m. m ∷ map (name_after old new) names) (let x : name_after old new n ≡ n = ap (λ b. if b then lowercase new else n) s in x)
          ∙ get_suc n names (position (bytes_eq old) names) i more h

pub set_front : (xs ys : List Name) (i : ℕ) (x : Name) → i < length xs → slice_set (xs ++ ys) i x ≡ slice_set xs i x ++ ys
set_front [] ys i x lt = absurd (omega (arith, lt))
set_front (a ∷ xs) ys zero x lt = refl
set_front (a ∷ xs) ys (suc i) x lt = ap (λ l. a ∷ l) (set_front xs ys i x (omega (arith, lt)))
