-- Names that differ are added one behind the other, as those of the core rules do.
use Rattle.std.proofs.Common.{◌≡◌, Bool, true, false, cond, List, [], ◌∷◌, ◌++◌, map, refl, sym, ap, ◌∙◌, append-nil, append_assoc}
use Rattle.std.specs.Prelude.{fold, filter, ◌||◌, if◌then◌else◌}
use Rattle.std.specs.List.{list_any, AllByRecursion}
use Rattle.std.proofs.lemmas.List.Folds.{list_any-append}
use Rattle.std.specs.Str.{bytes_eq}
use Rattle.abnf_parts.specs.Names.{Name, with_name}
use Rattle.abnf_parts.specs.Core.{CoreRule, core_rules, core_name}
use Rattle.abnf_parts.proofs.NameLaws.{same_sym}

pub map_both : {X Y Z : Type 0} (f : Y → Z) (g : X → Y) (xs : List X) → map (λ x. f (g x)) xs ≡ map f (map g xs)
map_both f g [] = refl
map_both f g (x ∷ xs) = ap (λ rest. f (g x) ∷ rest) (map_both f g xs)

-- no name stands twice
abbrev AreApart : List Name → Type 0
AreApart [] = Unit {0}
AreApart (n ∷ names) = (list_any (bytes_eq n) names ≡ false) × AreApart names

abbrev AreNew : List Name → List Name → Type 0
AreNew names more = AllByRecursion (λ n. list_any (bytes_eq n) names ≡ false) more

front_false : (b rest : Bool) → (b || rest) ≡ false → b ≡ false
front_false true rest h = h
front_false false rest h = refl

rest_false : (b rest : Bool) → (b || rest) ≡ false → rest ≡ false
rest_false true true h = h
rest_false true false h = refl
rest_false false rest h = h

new_more : (names : List Name) (n : Name) (more : List Name) → list_any (bytes_eq n) more ≡ false → AreNew names more → AreNew (names ++ n ∷ []) more
new_more names n [] h new = tt
new_more names n (m ∷ more) h new = (
  list_any-append (bytes_eq m) names (n ∷ []) ∙ (ap (λ b. b || (bytes_eq m n || false)) new.0 ∙ ap (λ b. b || false) (same_sym m n ∙ front_false (bytes_eq n m) (list_any (bytes_eq n) more) h)),
  new_more names n more (rest_false (bytes_eq n m) (list_any (bytes_eq n) more) h) new.1,
)

fold_apart : (names more : List Name) → AreApart more → AreNew names more → fold with_name names more ≡ names ++ more
fold_apart names [] apart new = sym (append-nil names)
fold_apart names (n ∷ more) apart new =
    ap (λ b. fold with_name (if b then names else names ++ n ∷ []) more) new.0
    ∙ (fold_apart (names ++ n ∷ []) more apart.1 (new_more names n more apart.0 new.1) ∙ append_assoc names (n ∷ []) more)

all_new : (more : List Name) → AreNew [] more
all_new [] = tt
all_new (n ∷ more) = (refl, all_new more)

module _ (test : CoreRule → Bool) where
  any_filter_by : (b : Bool) (other : Name → Bool) (c : CoreRule) (cs : List CoreRule) → (other (core_name c) || list_any other (map core_name cs)) ≡ false →
      list_any other (map core_name (filter test cs)) ≡ false → list_any other (map core_name (cond b (c ∷ filter test cs) (filter test cs))) ≡ false
  any_filter_by true other c cs h rest = ap (λ b. b || list_any other (map core_name (filter test cs))) (front_false (other (core_name c)) (list_any other (map core_name cs)) h) ∙ rest
  any_filter_by false other c cs h rest = rest

  any_filter : (other : Name → Bool) (cs : List CoreRule) → list_any other (map core_name cs) ≡ false → list_any other (map core_name (filter test cs)) ≡ false
  any_filter other [] h = h
  any_filter other (c ∷ cs) h = any_filter_by (test c) other c cs h (any_filter other cs (rest_false (other (core_name c)) (list_any other (map core_name cs)) h))

  apart_filter_by : (b : Bool) (c : CoreRule) (cs : List CoreRule) → list_any (bytes_eq (core_name c)) (map core_name cs) ≡ false → AreApart (map core_name (filter test cs)) →
      AreApart (map core_name (cond b (c ∷ filter test cs) (filter test cs)))
  apart_filter_by true c cs h rest = (any_filter (bytes_eq (core_name c)) cs h, rest)
  apart_filter_by false c cs h rest = rest

  apart_filter : (cs : List CoreRule) → AreApart (map core_name cs) → AreApart (map core_name (filter test cs))
  apart_filter [] h = tt
  apart_filter (c ∷ cs) h = apart_filter_by (test c) c cs h.0 (apart_filter cs h.1)

core_apart : AreApart (map core_name core_rules)
core_apart = (refl, (refl, (refl, (refl, (refl, (refl, (refl, (refl, (refl, (refl, (refl, (refl, (refl, (refl, (refl, (refl, tt))))))))))))))))

pub needed_names : (test : CoreRule → Bool) → fold with_name [] (map core_name (filter test core_rules)) ≡ map core_name (filter test core_rules)
needed_names test = fold_apart [] (map core_name (filter test core_rules)) (apart_filter test core_rules core_apart) (all_new (map core_name (filter test core_rules)))
