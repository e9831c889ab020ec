-- Findings that move with their lines stay in order, where none stands on a line of the part that is replaced.
use Rattle.std.proofs.Common.{◌≡◌, ◌∙◌, ℕ, ◌+◌, ◌<◌, ◌≤◌, ◌⊎◌, inl, inr, true, List, [], ◌∷◌, map, refl, sym, ap, arith}
use Rattle.std.specs.Prelude.{◌-◌, if◌then◌else◌}
use Rattle.std.specs.List.{AllByRecursion}
use Rattle.std.specs.Cmp.{nat_cmp_is}
use Rattle.std.specs.Ordering.{is_lt, nat_cmp, ordering_then}
use Rattle.std.specs.declared.cmp.Ordering.TheVariants.{Less, Equal, Greater}
use Rattle.std.proofs.lemmas.Bool.{cases_order, lt-ltb, le-ltb}
use Rattle.abnf_lint.specs.declared.finding.Code.{Code}
use Rattle.abnf_lint.specs.declared.finding.Code.TheVariants as c
use Rattle.abnf_lint.specs.declared.finding.Finding.{Finding}
use Rattle.abnf_lint.specs.Order.{FindingsAscend, code_row, finding_before}
use Rattle.abnf_lint.proofs.Member.{first_in, later_in}
use Rattle.abnf_digests.specs.Moved.{moved_line, moved_code, moved_finding, NoneFound}

-- ---- lines

pub stays : (front old new line : ℕ) → line < front → moved_line front old new line ≡ line
stays front old new line less = ap (λ b. if b then line else (line + new) - old) (lt-ltb line front less)

pub moves : (front old new line : ℕ) → front ≤ old → old ≤ line → moved_line front old new line + old ≡ line + new
moves front old new line order more =
    let is : moved_line front old new line ≡ (line + new) - old = ap (λ b. if b then line else (line + new) - old) (le-ltb line front (omega arith)) in
    omega (arith, is)

cmp_same : (a b x y : ℕ) → (a < b → x < y) → (a ≡ b → x ≡ y) → (b < a → y < x) → nat_cmp x y ≡ nat_cmp a b
cmp_same a b x y less same more = elim (cases_order a b) [
  | inl e ↦ sym (nat_cmp_is x y Equal (same e)) ∙ nat_cmp_is a b Equal e
  | inr o ↦ elim o [
    | inl h ↦ sym (nat_cmp_is x y Less (less h)) ∙ nat_cmp_is a b Less h
    | inr h ↦ sym (nat_cmp_is x y Greater (more h)) ∙ nat_cmp_is a b Greater h
  ]
]

module _ (front old new : ℕ) (order : (front ≤ old) × (front ≤ new)) where
  -- not a line of the part
  abbrev IsOutside : ℕ → Type 0
  IsOutside line = (line < front) ⊎ (old ≤ line)

  line_cmp : (a b : ℕ) → IsOutside a → IsOutside b → nat_cmp (moved_line front old new a) (moved_line front old new b) ≡ nat_cmp a b
  line_cmp a b (inl h) (inl k) =
      let e = stays front old new a h in
      let f = stays front old new b k in
      cmp_same a b (moved_line front old new a) (moved_line front old new b) (λ l. omega (arith, e, f, l)) (λ l. omega (arith, e, f, l)) (λ l. omega (arith, e, f, l))
  line_cmp a b (inl h) (inr k) =
      let e = stays front old new a h in
      let f = moves front old new b order.0 k in
      cmp_same a b (moved_line front old new a) (moved_line front old new b)
      (λ l. omega (arith, e, f, h, k, order.1)) (λ l. absurd (omega (arith, h, k, l, order.0))) (λ l. absurd (omega (arith, h, k, l, order.0)))
  line_cmp a b (inr h) (inl k) =
      let e = moves front old new a order.0 h in
      let f = stays front old new b k in
      cmp_same a b (moved_line front old new a) (moved_line front old new b)
      (λ l. absurd (omega (arith, h, k, l, order.0))) (λ l. absurd (omega (arith, h, k, l, order.0))) (λ l. omega (arith, e, f, h, k, order.1))
  line_cmp a b (inr h) (inr k) =
      let e = moves front old new a order.0 h in
      let f = moves front old new b order.0 k in
      cmp_same a b (moved_line front old new a) (moved_line front old new b) (λ l. omega (arith, e, f, l)) (λ l. omega (arith, e, f, l)) (λ l. omega (arith, e, f, l))

  -- ---- findings

  row_same : (code : Code) → code_row (moved_code front old new code) ≡ code_row code
  row_same (c.Syntax fault) = refl
  row_same c.NumberTooLarge = refl
  row_same c.TooDeep = refl
  row_same c.Undefined = refl
  row_same c.Duplicate = refl
  row_same c.NoBase = refl
  row_same c.EmptyRepeat = refl
  row_same c.EmptyRange = refl
  row_same c.Unproductive = refl

  abbrev moved : Finding → Finding
  moved = moved_finding front old new

  abbrev AllOutside : List Finding → Type 0
  AllOutside rows = AllByRecursion (λ (f : Finding). IsOutside f.place.line) rows

  before_same : (f g : Finding) → IsOutside f.place.line → IsOutside g.place.line → finding_before (moved f) (moved g) ≡ finding_before f g
  before_same f g a b =
      (λ i. is_lt (ordering_then (ordering_then (line_cmp f.place.line g.place.line a b i) (nat_cmp f.place.start g.place.start)) (nat_cmp (row_same f.code i) (row_same g.code i))))

  all_before : (f : Finding) → IsOutside f.place.line → (rows : List Finding) → AllOutside rows → AllByRecursion (λ g. finding_before f g ≡ true) rows
      → AllByRecursion (λ g. finding_before (moved f) g ≡ true) (map moved rows)
  all_before f a [] out h = tt
  all_before f a (g ∷ rows) out h = (before_same f g a out.0 ∙ h.0, all_before f a rows out.1 h.1)

  still_ascend : (rows : List Finding) → AllOutside rows → FindingsAscend rows → FindingsAscend (map moved rows)
  still_ascend [] out h = tt
  still_ascend (f ∷ rows) out h = (all_before f out.0 rows out.1 h.0, still_ascend rows out.1 h.1)

  all_outside : (rows : List Finding) → NoneFound front old rows → AllOutside rows
  all_outside [] none = tt
  all_outside (f ∷ rows) none = (none f (first_in f rows), all_outside rows (λ g h. none g (later_in f rows g h)))

  pub moved_ascend : (rows : List Finding) → NoneFound front old rows → FindingsAscend rows → FindingsAscend (map moved rows)
  moved_ascend rows none h = still_ascend rows (all_outside rows none) h
