-- The first of some alternatives with the least pair.
use Rattle.std.proofs.Common.{◌≡◌, ℕ, suc, ◌+◌, ◌<◌, ◌≤◌, ◌⊎◌, inl, inr, ⊎_elim, true, false, ◌&&◌, List, [], ◌∷◌, length, Some, refl, sym, ap, ◌∙◌, subst, arith, map, take, drop, get_or, ltb, eqb}
use Rattle.std.proofs.lemmas.List.{drop_more}
use Rattle.std.proofs.lemmas.Bool.{cond_both, ltb-true, ltb-false, cases_lt, cases_eq, or_cases, or_parts, and_parts, and_cases, eqb-true, eqb-false}
use Rattle.std.specs.Prelude.{slice_get}
use Rattle.std.specs.List.{AllByRecursion}
use Rattle.abnf_cert.specs.declared.entry.Entry.{Entry}
use Rattle.abnf_cert.specs.declared.entry.Entry.TheVariants.{Nothing, Least}
use Rattle.abnf_cert.specs.Accepted.{NotBefore, After, Saturated, IsChoice, top}
use Rattle.abnf_least.specs.own.Form.{is_before, better, first_least}
use Rattle.abnf_least.specs.Table.{InRange}

pub before_true : (l h m k : ℕ) → is_before l h m k ≡ true → (l < m) ⊎ ((l ≡ m) × (h < k))
before_true l h m k t =
    ⊎_elim
    (λ a. inl (ltb-true l m a))
    (λ b. let p = and_parts (eqb l m) (ltb h k) b in inr (eqb-true l m p.0, ltb-true h k p.1))
    (or_cases (ltb l m) (eqb l m && ltb h k) t)

pub before_false : (l h m k : ℕ) → is_before l h m k ≡ false → (m < l) ⊎ ((m ≡ l) × (k ≤ h))
before_false l h m k f =
    let p = or_parts (ltb l m) (eqb l m && ltb h k) f in
    let le : m ≤ l = ltb-false l m p.0 in
    ⊎_elim
    (λ e. inr (
      sym e,
      ltb-false h k
          (⊎_elim (λ ne. absurd (eqb-false l m ne e)) (λ w. w) (and_cases (eqb l m) (ltb h k) p.1)),
    ))
    (λ ne. inl (omega arith))
    (cases_eq l m)

-- what `first_least` finds, of alternatives that are numbered from i
pub record IsFirst (i : ℕ) (es : List Entry) (l h c : ℕ) : Type 0 where
  pub place : ℕ
  pub chosen : c ≡ i + place
  pub there : (d : ℕ) × (slice_get es place ≡ Some (Least l h d))
  pub least : AllByRecursion (NotBefore l h) es
  pub first : AllByRecursion (After l h) (take place es)

abbrev pub FirstOf : ℕ → List Entry → Entry → Type 0
FirstOf i es Nothing = AllByRecursion (λ e. e ≡ Nothing) es
FirstOf i es (Least l h c) = IsFirst i es l h c

-- a pair that comes before (l, h) comes before what is not before (l, h)
pub earlier : (m k l h : ℕ) (e : Entry) → (m < l) ⊎ ((m ≡ l) × (k ≤ h)) → NotBefore l h e → NotBefore m k e
earlier m k l h Nothing p n = tt
earlier m k l h (Least a b c) p n =
    ⊎_elim
    (λ x. inl (⊎_elim (λ y. omega arith) (λ y. omega (arith, y.0)) n))
    (λ x. ⊎_elim (λ y. inl (omega (arith, x.0))) (λ y. inr (x.0 ∙ y.0, omega (arith, x.1, y.1))) n)
    p

earlier_all : (m k l h : ℕ) (es : List Entry) → (m < l) ⊎ ((m ≡ l) × (k ≤ h)) → AllByRecursion (NotBefore l h) es → AllByRecursion (NotBefore m k) es
earlier_all m k l h [] p n = tt
earlier_all m k l h (e ∷ es) p n = (earlier m k l h e p n.0, earlier_all m k l h es p n.1)

nothing_before : (l h : ℕ) (es : List Entry) → AllByRecursion (λ e. e ≡ Nothing) es → AllByRecursion (NotBefore l h) es
nothing_before l h [] n = tt
nothing_before l h (e ∷ es) n = (subst (λ x. NotBefore l h x) (sym n.0) tt, nothing_before l h es n.1)

weaker : (m k l h : ℕ) → (m < l) ⊎ ((m ≡ l) × (k < h)) → (m < l) ⊎ ((m ≡ l) × (k ≤ h))
weaker m k l h p = ⊎_elim (λ x. inl x) (λ x. inr (x.0, omega (arith, x.1))) p

-- one alternative before those that are numbered from i + 1
one_more : (i : ℕ) (e : Entry) (es : List Entry) (best : Entry) → FirstOf (suc i) es best → FirstOf i (e ∷ es) (better i e best)
one_more i Nothing es Nothing f = (refl, f)
one_more i Nothing es (Least m k d) f =
    record { place = suc f.place; chosen = omega (arith, f.chosen); there = f.there; least = (tt, f.least); first = (tt, f.first) }
one_more i (Least l h c) es Nothing f =
    record { place = 0; chosen = omega arith; there = (c, refl); least = (inr (refl, omega arith), nothing_before l h es f); first = tt }
one_more i (Least l h c) es (Least m k d) f =
    cond_both (is_before m k l h) (Least m k d) (Least l h i) (λ r. FirstOf i (Least l h c ∷ es) r)
    (λ t. let p = before_true m k l h t in
    record { place = suc f.place; chosen = omega (arith, f.chosen); there = f.there; least = (weaker m k l h p, f.least); first = (p, f.first) })
    (λ t. let p = before_false m k l h t in
    record { place = 0; chosen = omega arith; there = (c, refl); least = (inr (refl, omega arith), earlier_all l h m k es p f.least); first = tt })

pub first_is : (i : ℕ) (es : List Entry) → FirstOf i es (first_least i es)
first_is i [] = tt
first_is i (e ∷ es) = one_more i e es (first_least (suc i) es) (first_is (suc i) es)

saturated : (l h : ℕ) (es : List Entry) → l ≡ top → AllByRecursion (NotBefore l h) es → AllByRecursion InRange es → AllByRecursion Saturated es
saturated l h [] e n r = tt
saturated l h (Nothing ∷ es) e n r = (tt, saturated l h es e n.1 r.1)
saturated l h (Least m k c ∷ es) e n r =
    (⊎_elim (λ x. omega (arith, r.0, e)) (λ x. sym x.0 ∙ e) n.0, saturated l h es e n.1 r.1)

choice_of : (es : List Entry) (r : Entry) → FirstOf 0 es r → InRange r → AllByRecursion InRange es → IsChoice es r
choice_of es Nothing f r all = f
choice_of es (Least l h c) f r all =
    let same : f.place ≡ c = omega (arith, f.chosen) in (
      (f.there.0, subst (λ x. slice_get es x ≡ Some (Least l h f.there.0)) same f.there.1),
      ⊎_elim
          (λ below. inl (record { below = below; least = f.least; first = subst (λ x. AllByRecursion (After l h) (take x es)) same f.first }))
          (λ above. let e : l ≡ top = omega (arith, r) in inr (record { at_top = e; all = saturated l h es e f.least all }))
          (cases_lt l top),
    )

-- it is the entry of a choice
pub is_choice : (es : List Entry) → InRange (first_least 0 es) → AllByRecursion InRange es → IsChoice es (first_least 0 es)
is_choice es r all = choice_of es (first_least 0 es) (first_is 0 es) r all

-- a loop's step, from the last to the first
pub first_more :
    (at : ℕ → Entry) (ns : List ℕ) (i j : ℕ) → j + 1 ≡ i → j < length ns →
    first_least j (map at (drop j ns)) ≡ better j (at (get_or ns j 0)) (first_least i (map at (drop i ns)))
first_more at ns i j e within =
    let s : suc j ≡ i = omega arith in
    ap (λ xs. first_least j (map at xs)) (drop_more ns j 0 within)
    ∙ ap (λ k. better j (at (get_or ns j 0)) (first_least k (map at (drop (j + 1) ns)))) s
    ∙ ap (λ k. better j (at (get_or ns j 0)) (first_least i (map at (drop k ns)))) e
