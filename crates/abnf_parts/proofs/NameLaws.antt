-- Names of rules, as they are kept and as they are read.
use Rattle.std.proofs.Common.{◌≡◌, ◌<◌, ◌≤◌, ℕ, suc, arith, Bool, true, false, cond, not, ◌+◌, List, [], ◌∷◌, ◌++◌, map, length, refl, sym, ap, subst, ◌∙◌}
use Rattle.std.proofs.lemmas.List.{length-map, map-append}
use Rattle.std.proofs.lemmas.Bool.{ltb-true, ltb-false, lt-ltb, le-ltb}
use Rattle.std.specs.Prelude.{position, nat_lt, Option, Some, None, option_map, if◌then◌else◌, ◌||◌}
use Rattle.std.specs.List.{position_or_len, list_any}
use Rattle.std.specs.Option.{is_some}
use Rattle.std.specs.Cmp.Lexicographic.{same_text, other_text}
use Rattle.std.specs.Str.{bytes_eq}
use Rattle.abnf_parts.specs.Names.{Name, with_name}

module _ {X Y : Type 0} (f : X → Y) (test : Y → Bool) where
  pub list_any_map : (xs : List X) → list_any test (map f xs) ≡ list_any (λ x. test (f x)) xs
  list_any_map [] = refl
  list_any_map (x ∷ xs) = ap (λ b. test (f x) || b) (list_any_map xs)

  position_or_len_map : (xs : List X) → position_or_len test (map f xs) ≡ position_or_len (λ x. test (f x)) xs
  position_or_len_map [] = refl
  position_or_len_map (x ∷ xs) = ap (λ n. cond (not (test (f x))) (1 + n) 0) (position_or_len_map xs)

  pub position_map : (xs : List X) → position test (map f xs) ≡ position (λ x. test (f x)) xs
  position_map xs =
      ap (λ n. cond (nat_lt n (length (map f xs))) (Some n) None) (position_or_len_map xs)
      ∙ ap (λ n. cond (nat_lt (position_or_len (λ x. test (f x)) xs) n) (Some (position_or_len (λ x. test (f x)) xs)) None) (length-map xs f)

pub map_if : {X Y : Type 0} (f : X → Y) (b : Bool) (xs : List X) (x : X) → map f (if b then xs else xs ++ x ∷ []) ≡ (if b then map f xs else map f xs ++ f x ∷ [])
map_if f true xs x = refl
map_if f false xs x = map-append f xs (x ∷ [])

-- where the first of a list stands that passes, by its first item
module _ {X : Type 0} (test : X → Bool) where
  next_by : (less : Bool) (n l : ℕ) → nat_lt n l ≡ less → cond (nat_lt (1 + n) (suc l)) (Some (1 + n)) None ≡ option_map suc (cond (nat_lt n l) (Some n) None)
  next_by true n l e =
      ap (λ b. cond b (Some (1 + n)) None) (lt-ltb (1 + n) (suc l) (let lt : n < l = ltb-true n l e in omega (arith, lt)))
      ∙ (ap Some (let one : 1 + n ≡ suc n = omega arith in one) ∙ sym (ap (λ b. option_map suc (cond b (Some n) None)) e))
  next_by false n l e =
      ap (λ b. cond b (Some (1 + n)) None) (le-ltb (1 + n) (suc l) (let le : l ≤ n = ltb-false n l e in omega (arith, le)))
      ∙ sym (ap (λ b. option_map suc (cond b (Some n) None)) e)

  first_by : (b : Bool) (n l : ℕ) → cond (nat_lt (cond (not b) (1 + n) 0) (suc l)) (Some (cond (not b) (1 + n) 0)) None ≡ (if b then Some 0 else option_map suc (cond (nat_lt n l) (Some n) None))
  first_by true n l = ap (λ b. cond b (Some 0) None) (lt-ltb 0 (suc l) (omega arith))
  first_by false n l = next_by (nat_lt n l) n l refl

  pub position_cons : (x : X) (xs : List X) → position test (x ∷ xs) ≡ (if test x then Some 0 else option_map suc (position test xs))
  position_cons x xs = first_by (test x) (position_or_len test xs) (length xs)

  -- of two lists, one behind the other
  abbrev pub behind : ℕ → Option ℕ → Option ℕ → Option ℕ
  behind n (Some i) other = Some i
  behind n None other = option_map (λ i. n + i) other

  behind_suc : (b : Bool) (n : ℕ) (here other : Option ℕ) → (if b then Some 0 else option_map suc (behind n here other)) ≡ behind (suc n) (if b then Some 0 else option_map suc here) other
  behind_suc true n here other = refl
  behind_suc false n (Some i) other = refl
  behind_suc false n None (Some i) = ap Some (let e : suc (n + i) ≡ suc n + i = omega arith in e)
  behind_suc false n None None = refl

  behind_none : (other : Option ℕ) → other ≡ behind 0 None other
  behind_none (Some i) = ap Some (let e : i ≡ 0 + i = omega arith in e)
  behind_none None = refl

  pub position_append : (xs ys : List X) → position test (xs ++ ys) ≡ behind (length xs) (position test xs) (position test ys)
  position_append [] ys = behind_none (position test ys)
  position_append (x ∷ xs) ys =
      position_cons x (xs ++ ys)
      ∙ (ap (λ o. if test x then Some 0 else option_map suc o) (position_append xs ys)
      ∙ (behind_suc (test x) (length xs) (position test xs) (position test ys)
      ∙ ap (λ o. behind (suc (length xs)) o (position test ys)) (sym (position_cons x xs))))

-- names that are the same are one
pub never : {A : Type 0} (b : Bool) → b ≡ true → b ≡ false → A
never true e f = absurd (cc (f))
never false e f = absurd (cc (e))

pub same_is : (s t : Name) → bytes_eq s t ≡ true → s ≡ t
same_is s t h = same_text s t (sym h)

refl_by : (s : Name) (b : Bool) → bytes_eq s s ≡ b → bytes_eq s s ≡ true
refl_by s true e = e
refl_by s false e = absurd (other_text s s (sym e) refl)

pub same_refl : (s : Name) → bytes_eq s s ≡ true
same_refl s = refl_by s (bytes_eq s s) refl

sym_by : (s t : Name) (b c : Bool) → bytes_eq s t ≡ b → bytes_eq t s ≡ c → b ≡ c
sym_by s t true true e f = refl
sym_by s t true false e f = never (bytes_eq t s) (subst (λ k. bytes_eq t k ≡ true) (sym (same_is s t e)) (same_refl t)) f
sym_by s t false true e f = never (bytes_eq s t) (subst (λ k. bytes_eq s k ≡ true) (sym (same_is t s f)) (same_refl s)) e
sym_by s t false false e f = refl

pub same_sym : (s t : Name) → bytes_eq s t ≡ bytes_eq t s
same_sym s t = sym_by s t (bytes_eq s t) (bytes_eq t s) refl refl

-- a name is there where it has a place
pub position_any : (n : Name) (names : List Name) → list_any (bytes_eq n) names ≡ is_some (position (bytes_eq n) names)
position_any n [] = refl
position_any n (a ∷ names) = any_by (bytes_eq n a) (position_any n names) ∙ ap is_some (sym (position_cons (bytes_eq n) a names))
  where
    some_suc : (o : Option ℕ) → is_some o ≡ is_some (option_map suc o)
    some_suc None = refl
    some_suc (Some k) = refl

    any_by : (b : Bool) → list_any (bytes_eq n) names ≡ is_some (position (bytes_eq n) names) → (b || list_any (bytes_eq n) names) ≡ is_some (if b then Some 0 else option_map suc (position (bytes_eq n) names))
    any_by true e = refl
    any_by false e = e ∙ some_suc (position (bytes_eq n) names)

pub with_there : (n : Name) (names : List Name) (k : ℕ) → position (bytes_eq n) names ≡ Some k → with_name names n ≡ names
with_there n names k h = ap (λ b. if b then names else names ++ n ∷ []) (position_any n names ∙ ap is_some h)

pub with_new : (n : Name) (names : List Name) → position (bytes_eq n) names ≡ None → with_name names n ≡ names ++ n ∷ []
with_new n names h = ap (λ b. if b then names else names ++ n ∷ []) (position_any n names ∙ ap is_some h)

-- the place that a name has, or would get
pub no_place : (n : Name) (names : List Name) → list_any (bytes_eq n) names ≡ false → None ≡ position (bytes_eq n) names
no_place n names h = by (position (bytes_eq n) names) (sym (position_any n names) ∙ h)
  where
    by : (o : Option ℕ) → is_some o ≡ false → None ≡ o
    by None e = refl
    by (Some k) e = absurd (cc e)

pub old_place : {X : Type 0} (test : X → Bool) (xs : List X) (k : ℕ) → is_some (position test xs) ≡ true → k ≡ position_or_len test xs → Some k ≡ position test xs
old_place test xs k h e = ap Some e ∙ by (nat_lt (position_or_len test xs) (length xs)) h
  where
    by : (b : Bool) → is_some (cond b (Some (position_or_len test xs)) None) ≡ true → Some (position_or_len test xs) ≡ cond b (Some (position_or_len test xs)) None
    by true g = refl
    by false g = absurd (cc g)
