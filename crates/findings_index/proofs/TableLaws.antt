-- The numbers of names in a table to which names are added.
use Rattle.std.proofs.Common.{◌≡◌, ℕ, suc, ◌+◌, ◌≤◌, Bool, true, false, cond, not, Option, Some, None, option_map, List, [], ◌∷◌, length, map, inl, inr, refl, sym, ap, ◌∙◌, arith}
use Rattle.std.specs.Prelude.{Contains, fold, position, nat_lt, if◌then◌else◌}
use Rattle.std.specs.List.{position_or_len}
use Rattle.std.specs.Option.{is_some}
use Rattle.std.specs.Str.{bytes_eq}
use Rattle.std.proofs.lemmas.Bool.{ltb-false}
use Rattle.abnf_parts.specs.Names.{Name, rule_number, with_name}
use Rattle.abnf_parts.proofs.NameLaws.{position_append, position_cons, with_there, with_new, old_place, same_is, same_refl, behind}
use Rattle.abnf_lint.proofs.Member.{in_cons}
use Rattle.findings_index.specs.Words.{IsLater}

module _ {X : Type 0} (test : X → Bool) where
  one_by : (b : Bool) (n l : ℕ) → n ≤ l → cond (not b) (1 + n) 0 ≤ suc l
  one_by true n l h = omega arith
  one_by false n l h = omega arith

  at_most : (xs : List X) → position_or_len test xs ≤ length xs
  at_most [] = omega arith
  at_most (x ∷ xs) = one_by (test x) (position_or_len test xs) (length xs) (at_most xs)

  none_by : (b : Bool) (n : ℕ) → cond b (Some n) None ≡ None → b ≡ false
  none_by true n e = absurd (cc (e))
  none_by false n e = refl

  at_end : (xs : List X) → position test xs ≡ None → position_or_len test xs ≡ length xs
  at_end xs e =
      let past : length xs ≤ position_or_len test xs = ltb-false (position_or_len test xs) (length xs) (none_by (nat_lt (position_or_len test xs) (length xs)) (position_or_len test xs) e) in
      omega (arith, past, at_most xs)

pub mapped_place : {X Y : Type 0} (f : X → Y) (test : Y → Bool) (xs : List X) → position_or_len test (map f xs) ≡ position_or_len (λ x. test (f x)) xs
mapped_place f test [] = refl
mapped_place f test (x ∷ xs) = ap (λ n. cond (not (test (f x))) (1 + n) 0) (mapped_place f test xs)

alone : (name : Name) → rule_number (name ∷ []) name ≡ Some 0
alone name = position_cons (bytes_eq name) name [] ∙ ap (λ b. if b then Some 0 else None) (same_refl name)

behind_end : (test : Name → Bool) (n : ℕ) (here other : Option ℕ) → here ≡ None → other ≡ Some 0 → behind test n here other ≡ Some n
behind_end test n here other h o = (λ i. behind test n (h i) (o i)) ∙ ap Some (let e : n + 0 ≡ n = omega arith in e)

-- a name that is added has the place of the first that is the same, or the last one
pub place_is : (names : List Name) (name : Name) (n : ℕ) → n ≡ position_or_len (bytes_eq name) names → rule_number (with_name names name) name ≡ Some n
place_is names name n is = by (rule_number names name) refl
  where
    by : (o : Option ℕ) → rule_number names name ≡ o → rule_number (with_name names name) name ≡ Some n
    by (Some k) e = ap (λ it. rule_number it name) (with_there name names k e) ∙ sym (old_place (bytes_eq name) names n (ap is_some e) is)
    by None e =
        ap (λ it. rule_number it name) (with_new name names e)
        ∙ (position_append (bytes_eq name) names (name ∷ [])
        ∙ (behind_end (bytes_eq name) (length names) (rule_number names name) (rule_number (name ∷ []) name) e (alone name)
        ∙ ap Some (sym (is ∙ at_end (bytes_eq name) names e))))

-- ---- tables that grow

later_with : (table : List Name) (name : Name) → IsLater table (with_name table name)
later_with table name other number is = by (rule_number table name) refl
  where
    by : (o : Option ℕ) → rule_number table name ≡ o → rule_number (with_name table name) other ≡ Some number
    by (Some k) e = ap (λ it. rule_number it other) (with_there name table k e) ∙ is
    by None e =
        ap (λ it. rule_number it other) (with_new name table e)
        ∙ (position_append (bytes_eq other) table (name ∷ []) ∙ ap (λ it. behind (bytes_eq other) (length table) it (rule_number (name ∷ []) other)) is)

pub later_fold : (names table : List Name) → IsLater table (fold with_name table names)
later_fold [] table other number is = is
later_fold (name ∷ names) table other number is = later_fold names (with_name table name) other number (later_with table name other number is)

pub name_comes : (names table : List Name) (name : Name) → Contains names name → (number : ℕ) × (rule_number (fold with_name table names) name ≡ Some number)
name_comes [] table name c = absurd (omega (arith, c.1))
name_comes (first ∷ names) table name c = elim (in_cons first names name c) [
  | inl is ↦
      let number = position_or_len (bytes_eq name) table in
      (number, later_fold names (with_name table first) name number (ap (λ it. rule_number (with_name table it) name) is ∙ place_is table name number refl))
  | inr rest ↦ name_comes names (with_name table first) name rest
]

-- ---- names with the same number

suc_of : (o : Option ℕ) (number : ℕ) → option_map suc o ≡ Some number → (k : ℕ) × (o ≡ Some k) × (suc k ≡ number)
suc_of None number e = absurd (cc (e))
suc_of (Some k) number e = (k, refl, cc (e))

one_name : (first one other : Name) (b c : Bool) (here there : Option ℕ) (number : ℕ) → bytes_eq one first ≡ b → bytes_eq other first ≡ c
    → ((k : ℕ) → here ≡ Some k → there ≡ Some k → one ≡ other)
    → (if b then Some 0 else option_map suc here) ≡ Some number → (if c then Some 0 else option_map suc there) ≡ Some number → one ≡ other
one_name first one other true true here there number is that more e f = same_is one first is ∙ sym (same_is other first that)
one_name first one other true false here there number is that more e f =
    let h = suc_of there number f in
    let zero_is : 0 ≡ number = cc (e) in
    absurd (omega (arith, h.2, zero_is))
one_name first one other false true here there number is that more e f =
    let h = suc_of here number e in
    let zero_is : 0 ≡ number = cc (f) in
    absurd (omega (arith, h.2, zero_is))
one_name first one other false false here there number is that more e f =
    let h = suc_of here number e in
    let g = suc_of there number f in
    let same : g.0 ≡ h.0 = omega (arith, h.2, g.2) in
    more h.0 h.1 (g.1 ∙ ap Some same)

pub names_differ : (table : List Name) (one other : Name) (number : ℕ) → rule_number table one ≡ Some number → rule_number table other ≡ Some number → one ≡ other
names_differ [] one other number e f = absurd (cc (e))
names_differ (first ∷ table) one other number e f =
    one_name first one other (bytes_eq one first) (bytes_eq other first) (rule_number table one) (rule_number table other) number refl refl (names_differ table one other)
    (sym (position_cons (bytes_eq one) first table) ∙ e) (sym (position_cons (bytes_eq other) first table) ∙ f)
