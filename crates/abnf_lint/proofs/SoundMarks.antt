-- What is marked as others are marked yields something, if these do.
use Rattle.std.proofs.Common.{◌≡◌, ℕ, zero, suc, ◌+◌, ◌≤◌, ◌<◌, ◌⊎◌, inl, inr, ⊎_elim, ◌∙◌, Bool, true, false, Option, Some, None, List, length, sym, subst, arith, get_or}
use Rattle.std.proofs.lemmas.Bool.{and_parts, cases_eq, eqb-true, ltb-false, or_cases, not-true}
use Rattle.std.proofs.lemmas.List.{get_or-set_other, length-set}
use Rattle.std.proofs.lemmas.Option.{same_Some, slice_get-get_or}
use Rattle.std.specs.Prelude.{slice_get, slice_set, not, ◌||◌, nat_lt, nat_eq}
use Rattle.std.specs.List.{list_all, list_any}
use Rattle.std.specs.Option.{option_map_or}
use Rattle.abnf_parts.specs.Part.{Part, Parts, quoted, series, span, seq, alt, rep, ref, opaque, end, next, subparts, parts_of, root_number, numbers}
use Rattle.abnf_parts.specs.Nodes.{RefersWithin}
use Rattle.abnf_parts.specs.Generates.{UpTo}
use Rattle.abnf_cert.proofs.Holds.{TreeHolds, TreesHold, holds_here, part_holds, rule_holds}
use Rattle.abnf_lint.specs.Yields.{Yields, EachYields, SomeYields, RuleYields}
use Rattle.abnf_lint.specs.Marks.{AreSound, mark_at, part_yields, repetition_yields}

none_or_more : (least : ℕ) (P Q : Type 0) → (P → Q) → (least ≡ 0) ⊎ P → (least ≡ 0) ⊎ Q
none_or_more least P Q to (inl z) = inl z
none_or_more least P Q to (inr y) = inr (to y)

not_above : (low high : ℕ) → not (nat_lt high low) ≡ true → low ≤ high
not_above low high h = ltb-false high low (not-true (nat_lt high low) h)

module _ (Yes More : ℕ → Type 0) (up : (r : ℕ) → Yes r → More r) where
  mutual
    yields_more : (p : Part) → Yields Yes p → Yields More p
    yields_more (quoted text exact) y = tt
    yields_more (series characters) y = tt
    yields_more (span low high) y = y
    yields_more (seq ps) y = each_yields_more ps y
    yields_more (alt ps) y = some_yields_more ps y
    yields_more (rep least most p) y = (y.0, none_or_more least (Yields Yes p) (Yields More p) (λ z. yields_more p z) y.1)
    yields_more (ref name None) y = y
    yields_more (ref name (Some r)) y = up r y
    yields_more opaque y = y

    each_yields_more : (ps : Parts) → EachYields Yes ps → EachYields More ps
    each_yields_more end y = tt
    each_yields_more (next p ps) y = (yields_more p y.0, each_yields_more ps y.1)

    some_yields_more : (ps : Parts) → SomeYields Yes ps → SomeYields More ps
    some_yields_more end y = y
    some_yields_more (next p ps) (inl y) = inl (yields_more p y)
    some_yields_more (next p ps) (inr y) = inr (some_yields_more ps y)

module _ (rules : List Part) where
  rule_yields_more : (k j r : ℕ) → k ≤ j → RuleYields rules k r → RuleYields rules j r
  rule_yields_more zero j r le y = absurd y
  rule_yields_more (suc k) zero r le y = absurd (omega arith)
  rule_yields_more (suc k) (suc j) r le y =
      (y.0, y.1, yields_more (RuleYields rules k) (RuleYields rules j) (λ q. rule_yields_more k j q (omega arith)) y.0 y.2)

  -- with some number of nested references
  abbrev pub YieldsSo : Part → Type 0
  YieldsSo p = (k : ℕ) × Yields (RuleYields rules k) p

  at_most : (k j : ℕ) (p : Part) → k ≤ j → Yields (RuleYields rules k) p → Yields (RuleYields rules j) p
  at_most k j p le y = yields_more (RuleYields rules k) (RuleYields rules j) (λ q. rule_yields_more k j q le) p y

  each_at_most : (k j : ℕ) (ps : Parts) → k ≤ j → EachYields (RuleYields rules k) ps → EachYields (RuleYields rules j) ps
  each_at_most k j ps le y = each_yields_more (RuleYields rules k) (RuleYields rules j) (λ q. rule_yields_more k j q le) ps y

  -- the part stands at the number
  abbrev pub StandsAt : ℕ → Part → Type 0
  StandsAt n p = slice_get (parts_of rules) n ≡ Some p

  module _ (at : ℕ → Bool) (sound : (n : ℕ) (p : Part) → StandsAt n p → at n ≡ true → YieldsSo p) where
    each_so : (n : ℕ) (ps : Parts) → TreesHold StandsAt n ps → list_all at (numbers n ps) ≡ true → (k : ℕ) × EachYields (RuleYields rules k) ps
    each_so n end stand all = (0, tt)
    each_so n (next p ps) stand all =
        let both = and_parts (at n) (list_all at (numbers (n + length (subparts p)) ps)) all in
        let one = sound n p (holds_here StandsAt n p stand.0) both.0 in
        let rest = each_so (n + length (subparts p)) ps stand.1 both.1 in
        let k = one.0 + rest.0 in
        (k, (at_most one.0 k p (omega arith) one.1, each_at_most rest.0 k ps (omega arith) rest.1))

    some_so : (n : ℕ) (ps : Parts) → TreesHold StandsAt n ps → list_any at (numbers n ps) ≡ true → (k : ℕ) × SomeYields (RuleYields rules k) ps
    some_so n end stand any = absurd (cc any)
    some_so n (next p ps) stand any =
        ⊎_elim
        (λ one. let y = sound n p (holds_here StandsAt n p stand.0) one in (y.0, inl y.1))
        (λ rest. let y = some_so (n + length (subparts p)) ps stand.1 rest in (y.0, inr y.1))
        (or_cases (at n) (list_any at (numbers (n + length (subparts p)) ps)) any)

    up_to : (least : ℕ) (most : Option ℕ) → not (option_map_or (λ m. nat_lt m least) most false) ≡ true → UpTo most least
    up_to least None h = tt
    up_to least (Some most) h = not_above least most h

    repeated_so : (n least : ℕ) (most : Option ℕ) (p : Part) → TreeHolds StandsAt n p → repetition_yields least most (at n) ≡ true → YieldsSo (rep least most p)
    repeated_so n least most p stand h =
        let both = and_parts (not (option_map_or (λ m. nat_lt m least) most false)) (nat_eq least 0 || at n) h in
        ⊎_elim
        (λ none. (0, (up_to least most both.0, inl (eqb-true least 0 none))))
        (λ marked. let y = sound n p (holds_here StandsAt n p stand) marked in (y.0, (up_to least most both.0, inr y.1)))
        (or_cases (nat_eq least 0) (at n) both.1)

    rule_so : (r : ℕ) → r < length rules → at (root_number rules r) ≡ true → (k : ℕ) × RuleYields rules k r
    rule_so r within marked =
        let root = get_or rules r opaque in
        let is_root = slice_get-get_or rules r opaque within in
        let stands : StandsAt (root_number rules r) root = holds_here StandsAt (root_number rules r) root (rule_holds rules StandsAt (λ m q is. is) r root is_root) in
        let y = sound (root_number rules r) root stands marked in
        (suc y.0, (root, is_root, y.1))

    so_below : (n : ℕ) (p : Part) → TreeHolds StandsAt n p → RefersWithin (length rules) p → part_yields at (root_number rules) n p ≡ true → YieldsSo p
    so_below n (quoted text exact) stand refers h = (0, tt)
    so_below n (series characters) stand refers h = (0, tt)
    so_below n (span low high) stand refers h = (0, not_above low high h)
    so_below n (seq ps) stand refers h = each_so (suc n) ps stand.1 h
    so_below n (alt ps) stand refers h = some_so (suc n) ps stand.1 h
    so_below n (rep least most p) stand refers h = repeated_so (suc n) least most p stand.1 h
    so_below n (ref name None) stand refers h = absurd (cc h)
    so_below n (ref name (Some r)) stand refers h = rule_so r refers h
    so_below n opaque stand refers h = absurd (cc h)

    -- of a part that yields something as others are marked
    pub so : (n : ℕ) (p : Part) → StandsAt n p → RefersWithin (length rules) p → part_yields at (root_number rules) n p ≡ true → YieldsSo p
    so n p stands = so_below n p (part_holds rules StandsAt (λ m q is. is) n p stands)

module _ (rules : List Part) (marks : List Bool) (sound : AreSound rules marks) where
  -- of the marks with one more
  pub one_more : (n : ℕ) (p : Part) → StandsAt rules n p → RefersWithin (length rules) p → part_yields (mark_at marks) (root_number rules) n p ≡ true → AreSound rules (slice_set marks n true)
  one_more n p stands refers yields =
      let Marked : ℕ → Part → Type 0 = λ m q. StandsAt rules m q → mark_at (slice_set marks n true) m ≡ true → YieldsSo rules q in
      let so_here : YieldsSo rules p = so rules (mark_at marks) sound.each n p stands refers yields in
      record {
        one_each = length-set marks n true ∙ sound.one_each;
        each = λ m q is marked.
            ⊎_elim
            (λ same. let there : StandsAt rules n q = subst (λ k. StandsAt rules k q) same is in
            subst (λ r. YieldsSo rules r) (same_Some p q (sym stands ∙ there)) so_here)
            (λ other. sound.each m q is (sym (get_or-set_other marks n m true false other) ∙ marked))
            (cases_eq m n);
      }
