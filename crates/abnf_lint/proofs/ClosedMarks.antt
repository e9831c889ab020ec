-- Where each part is marked that yields something as others are marked, all are that yield anything.
use Rattle.std.proofs.Common.{◌≡◌, ℕ, zero, suc, ◌+◌, ◌≤◌, ◌<◌, ◌⊎◌, inl, inr, ⊎_elim, Bool, true, false, Option, Some, None, List, length, refl, sym, subst, arith}
use Rattle.std.proofs.lemmas.Bool.{and_from, cases_eq, cases_lt, eq-eqb, le-ltb, not_from_false, or_left, or_right}
use Rattle.std.proofs.lemmas.Option.{slice_get_within}
use Rattle.std.specs.Prelude.{slice_get, not, ◌||◌, nat_lt, nat_eq}
use Rattle.std.specs.List.{list_all, list_any}
use Rattle.std.specs.Option.{option_map_or}
use Rattle.abnf_parts.specs.Part.{Part, Parts, quoted, series, span, seq, alt, rep, ref, opaque, end, next, subparts, parts_of, root_number, numbers}
use Rattle.abnf_parts.specs.Generates.{UpTo}
use Rattle.abnf_cert.proofs.Holds.{TreeHolds, TreesHold, rule_holds}
use Rattle.abnf_lint.specs.Yields.{Yields, EachYields, SomeYields, RuleYields}
use Rattle.abnf_lint.specs.Marks.{AreClosed, mark_at, part_yields}

module _ (at : ℕ → Bool) (root : ℕ → ℕ) (Yes : ℕ → Type 0) (of_rule : (r : ℕ) → Yes r → at (root r) ≡ true) where
  -- part n is marked if it yields something as others are marked
  abbrev pub Follows : ℕ → Part → Type 0
  Follows n p = part_yields at root n p ≡ true → at n ≡ true

  not_above : (low high : ℕ) → low ≤ high → not (nat_lt high low) ≡ true
  not_above low high le = not_from_false (nat_lt high low) (le-ltb high low le)

  not_too_few : (least : ℕ) (most : Option ℕ) → UpTo most least → not (option_map_or (λ m. nat_lt m least) most false) ≡ true
  not_too_few least None u = refl
  not_too_few least (Some most) u = not_above least most u

  body_or_none : (P : Type 0) (body : Bool) (least : ℕ) → (P → body ≡ true) → (least ≡ 0) ⊎ P → (nat_eq least 0 || body) ≡ true
  body_or_none P body least to (inl z) = or_left (nat_eq least 0) body (eq-eqb least 0 z)
  body_or_none P body least to (inr y) = or_right (nat_eq least 0) body (to y)

  mutual
    marked : (n : ℕ) (p : Part) → TreeHolds Follows n p → Yields Yes p → at n ≡ true
    marked n (quoted text exact) h y = h refl
    marked n (series characters) h y = h refl
    marked n (span low high) h y = h (not_above low high y)
    marked n (seq ps) h y = h.0 (all_marked (suc n) ps h.1 y)
    marked n (alt ps) h y = h.0 (one_marked (suc n) ps h.1 y)
    marked n (rep least most p) h y = h.0 (and_from (not (option_map_or (λ m. nat_lt m least) most false)) (nat_eq least 0 || at (suc n)) (not_too_few least most y.0) (body_or_none (Yields Yes p) (at (suc n)) least (λ z. marked (suc n) p h.1 z) y.1))
    marked n (ref name None) h y = absurd y
    marked n (ref name (Some r)) h y = h (of_rule r y)
    marked n opaque h y = absurd y

    all_marked : (n : ℕ) (ps : Parts) → TreesHold Follows n ps → EachYields Yes ps → list_all at (numbers n ps) ≡ true
    all_marked n end h y = refl
    all_marked n (next p ps) h y =
        and_from (at n) (list_all at (numbers (n + length (subparts p)) ps)) (marked n p h.0 y.0) (all_marked (n + length (subparts p)) ps h.1 y.1)

    one_marked : (n : ℕ) (ps : Parts) → TreesHold Follows n ps → SomeYields Yes ps → list_any at (numbers n ps) ≡ true
    one_marked n end h y = absurd y
    one_marked n (next p ps) h (inl y) = or_left (at n) (list_any at (numbers (n + length (subparts p)) ps)) (marked n p h.0 y)
    one_marked n (next p ps) h (inr y) = or_right (at n) (list_any at (numbers (n + length (subparts p)) ps)) (one_marked (n + length (subparts p)) ps h.1 y)

module _ (rules : List Part) (marks : List Bool) (closed : AreClosed rules marks 0 (length (parts_of rules))) where
  follows : (n : ℕ) (p : Part) → slice_get (parts_of rules) n ≡ Some p → part_yields (mark_at marks) (root_number rules) n p ≡ true → mark_at marks n ≡ true
  follows n p is = closed n p is (omega arith) (slice_get_within (parts_of rules) n p is)

  -- the root of each rule is marked that yields something
  pub root_marked : (k r : ℕ) → RuleYields rules k r → mark_at marks (root_number rules r) ≡ true
  root_marked zero r y = absurd y
  root_marked (suc k) r y =
      marked (mark_at marks) (root_number rules) (RuleYields rules k) (root_marked k) (root_number rules r) y.0
      (rule_holds rules (λ m q. part_yields (mark_at marks) (root_number rules) m q ≡ true → mark_at marks m ≡ true) follows r y.0 y.1) y.2

module _ (rules : List Part) (marks : List Bool) where
  -- one number more, below those for which it holds
  pub one_lower : (number m stop : ℕ) → number ≡ suc m → AreClosed rules marks number stop
      → ((p : Part) → slice_get (parts_of rules) m ≡ Some p → part_yields (mark_at marks) (root_number rules) m p ≡ true → mark_at marks m ≡ true) → AreClosed rules marks m stop
  one_lower number m stop follows closed here n p is le lt yields =
      ⊎_elim
      (λ same. let Holds : ℕ → Type 0 = λ k. slice_get (parts_of rules) k ≡ Some p → part_yields (mark_at marks) (root_number rules) k p ≡ true → mark_at marks k ≡ true in
      subst Holds (sym same) (here p) is yields)
      (λ other. closed n p is (omega (arith, follows, above n le other)) lt yields)
      (cases_eq n m)
    where
      above : (n : ℕ) → m ≤ n → (n ≡ m → ⊥) → m < n
      above n le other = ⊎_elim (λ less. less) (λ most. absurd (other (omega (arith, most)))) (cases_lt m n)
