-- Two accepted certificates agree, but for heights and choices where a length is the greatest.
use Rattle.std.proofs.Common.{◌≡◌, ◌∙◌, ℕ, zero, suc, ◌+◌, ◌<◌, ◌≤◌, ◌⊎◌, inl, inr, List, [], ◌∷◌, length, map, take, Option, Some, None, refl, sym, ap, subst, arith}
use Rattle.std.proofs.lemmas.Bool.{cases_lt}
use Rattle.std.proofs.lemmas.Option.{none-some, same_Some}
use Rattle.std.specs.Prelude.{slice_get}
use Rattle.std.specs.List.{AllByRecursion}
use Rattle.abnf_cert.specs.declared.entry.Entry.{Entry}
use Rattle.abnf_cert.specs.declared.entry.Entry.TheVariants.{Nothing, Least}
use Rattle.abnf_parts.specs.Part.{Part, Parts, quoted, series, span, seq, alt, rep, ref, opaque, end, next, subparts, parts_of, root_number, numbers}
use Rattle.abnf_parts.specs.Generates.{UpTo, Gen, RuleGen}
use Rattle.abnf_cert.specs.Accepted.{top, in_a_row, all_in_a_row, times, referred, Exceeds, After, IsFirstLeast, IsSaturated, IsChoice, entry_at, IsAccepted}
use Rattle.abnf_cert.specs.Agreed.{Agree, AcceptedAgree}
use Rattle.abnf_cert.proofs.Below.{TreeFits, TreesFit, part_fits, rule_fits}
use Rattle.abnf_cert.proofs.Lower.{NotBelow, lower, rule_lower}
use Rattle.abnf_cert.proofs.Upper.{Reached, upper, rule_upper, past_end, no_rule}

-- ---- lengths, and heights where a length is below the top

abbrev SamePair : Entry → Entry → Type 0
SamePair Nothing Nothing = Unit {0}
SamePair Nothing (Least m k d) = ⊥
SamePair (Least l h c) Nothing = ⊥
SamePair (Least l h c) (Least m k d) = (l < top → (l ≡ m) × (h ≡ k)) × (top ≤ l → top ≤ m)

-- a string of the first entry isn't below the second one, and the other way round
module _ (P : ℕ → List ℕ → Type 0) where
  one_way : (l h c m k d : ℕ) → Reached h (P h) (Least l h c) → ((j : ℕ) (s : List ℕ) → P j s → NotBelow j s (Least m k d)) → l < top → (m ≤ l) × (m ≡ l → k ≤ h)
  one_way l h c m k d up low below =
      let s = up (omega arith) in
      let at = low h s.0 s.1 in
      let long : length s.0 ≡ l = s.2 below in
      (omega (arith, at.0), λ is. at.1 (omega arith) (omega arith))

  same_by : (l h c m k d : ℕ) → (l < top → (m ≤ l) × (m ≡ l → k ≤ h)) → (m < top → (l ≤ m) × (l ≡ m → h ≤ k)) → (l < top → (l ≡ m) × (h ≡ k)) × (top ≤ l → top ≤ m)
  same_by l h c m k d there back = (
    λ below.
        let a = there below in
        let b = back (omega (arith, a.0)) in
        let is : l ≡ m = omega (arith, a.0, b.0) in
        (is, omega (arith, a.1 (sym is), b.1 is)),
    λ full. elim (cases_lt m top) [ inl lt ↦ absurd (omega (arith, (back lt).0)) | inr le ↦ le ],
  )

  same_pair : (e f : Entry) → ((k : ℕ) → Reached k (P k) e) → ((k : ℕ) (s : List ℕ) → P k s → NotBelow k s e) → ((k : ℕ) → Reached k (P k) f) → ((k : ℕ) (s : List ℕ) → P k s → NotBelow k s f) → SamePair e f
  same_pair Nothing Nothing up low vp mow = tt
  same_pair Nothing (Least m k d) up low vp mow = let s = vp k (omega arith) in low k s.0 s.1
  same_pair (Least l h c) Nothing up low vp mow = let s = up h (omega arith) in mow h s.0 s.1
  same_pair (Least l h c) (Least m k d) up low vp mow =
      same_by l h c m k d (one_way l h c m k d (up h) mow) (one_way m k d l h c (vp k) low)

-- ---- parts that are no choice

-- a choice of 0, and a length up to the top
abbrev IsPlain : Entry → Type 0
IsPlain Nothing = Unit {0}
IsPlain (Least l h c) = (l ≤ top) × (c ≡ 0)

row_plain : (e f : Entry) → IsPlain (in_a_row e f)
row_plain Nothing f = tt
row_plain (Least l h c) Nothing = tt
row_plain (Least l h c) (Least m k d) = (omega arith, refl)

all_plain : (es : List Entry) → IsPlain (all_in_a_row es)
all_plain [] = (omega arith, refl)
all_plain (e ∷ es) = row_plain e (all_in_a_row es)

times_plain : (n : ℕ) (e : Entry) → IsPlain (times n e)
times_plain zero e = (omega arith, refl)
times_plain (suc n) Nothing = tt
times_plain (suc n) (Least l h c) = (omega arith, refl)

rep_plain : (least : ℕ) (most : Option ℕ) (e f : Entry) → (UpTo most least × (f ≡ times least e)) ⊎ (Exceeds most least × (f ≡ Nothing)) → IsPlain f
rep_plain least most e f (inl h) = subst IsPlain (sym h.1) (times_plain least e)
rep_plain least most e f (inr h) = subst IsPlain (sym h.1) tt

by_pair : (e f : Entry) → SamePair e f → IsPlain e → IsPlain f → Agree e f
by_pair Nothing Nothing same p q = inl refl
by_pair Nothing (Least m k d) same p q = absurd same
by_pair (Least l h c) Nothing same p q = absurd same
by_pair (Least l h c) (Least m k d) same p q = elim (cases_lt l top) [
  | inl lt ↦ let both = same.0 lt in inl (cc (both.0, both.1, p.1, q.1))
  | inr le ↦ inr (omega (arith, p.0), omega (arith, q.0, same.1 le))
]

span_same : (low high : ℕ) (e f : Entry) → ((low ≤ high) × (e ≡ Least 1 0 0)) ⊎ ((high < low) × (e ≡ Nothing)) → ((low ≤ high) × (f ≡ Least 1 0 0)) ⊎ ((high < low) × (f ≡ Nothing)) → e ≡ f
span_same low high e f (inl g) (inl h) = g.1 ∙ sym h.1
span_same low high e f (inl g) (inr h) = absurd (omega (arith, g.0, h.0))
span_same low high e f (inr g) (inl h) = absurd (omega (arith, g.0, h.0))
span_same low high e f (inr g) (inr h) = g.1 ∙ sym h.1

-- ---- choices

abbrev EachPair : List Entry → List Entry → Type 0
EachPair [] [] = Unit {0}
EachPair (e ∷ es) (f ∷ fs) = SamePair e f × EachPair es fs
EachPair _ _ = ⊥

-- the entry with this pair isn't after it
not_after : (l h c : ℕ) (f : Entry) → l < top → SamePair (Least l h c) f → After l h f → ⊥
not_after l h c Nothing below same a = same
not_after l h c (Least m k d) below same (inl lt) = absurd (omega (arith, (same.0 below).0))
not_after l h c (Least m k d) below same (inr both) = absurd (omega (arith, (same.0 below).1, both.1))

-- where the pair stands in a list, the other list's first one with it stands no later
no_later : (es fs : List Entry) (l h c d x : ℕ) → EachPair es fs → l < top → slice_get es c ≡ Some (Least l h x) → AllByRecursion (After l h) (take d fs) → d ≤ c
no_later [] fs l h c d x each below is first = absurd (none-some (Least l h x) is)
no_later (e ∷ es) [] l h c d x each below is first = absurd each
no_later (e ∷ es) (f ∷ fs) l h zero zero x each below is first = omega arith
no_later (e ∷ es) (f ∷ fs) l h (suc c) zero x each below is first = omega arith
no_later (e ∷ es) (f ∷ fs) l h zero (suc d) x each below is first =
    absurd (not_after l h x f below (subst (λ y. SamePair y f) (same_Some e (Least l h x) is) each.0) first.0)
no_later (e ∷ es) (f ∷ fs) l h (suc c) (suc d) x each below is first =
    let le : d ≤ c = no_later es fs l h c d x each.1 below is first.1 in omega arith

turned_pair : (e f : Entry) → SamePair e f → SamePair f e
turned_pair Nothing Nothing same = tt
turned_pair Nothing (Least m k d) same = same
turned_pair (Least l h c) Nothing same = same
turned_pair (Least l h c) (Least m k d) same = (
  λ below. elim (cases_lt l top) [
    | inl lt ↦ let both = same.0 lt in (sym both.0, sym both.1)
    | inr le ↦ absurd (omega (arith, same.1 le))
  ],
  λ full. elim (cases_lt l top) [ inl lt ↦ absurd (omega (arith, (same.0 lt).0)) | inr le ↦ le ],
)

turned : (es fs : List Entry) → EachPair es fs → EachPair fs es
turned [] [] each = tt
turned [] (f ∷ fs) each = each
turned (e ∷ es) [] each = each
turned (e ∷ es) (f ∷ fs) each = (turned_pair e f each.0, turned es fs each.1)

choice_same : (es fs : List Entry) (e f : Entry) → EachPair es fs → SamePair e f → IsChoice es e → IsChoice fs f → Agree e f
choice_same es fs Nothing Nothing each same p q = inl refl
choice_same es fs Nothing (Least m k d) each same p q = absurd same
choice_same es fs (Least l h c) Nothing each same p q = absurd same
choice_same es fs (Least l h c) (Least m k d) each same p q = chosen p.1 q.1
  where
    chosen : IsFirstLeast es l h c ⊎ IsSaturated es l → IsFirstLeast fs m k d ⊎ IsSaturated fs m → Agree (Least l h c) (Least m k d)
    chosen (inl a) (inl b) =
        let both = same.0 a.below in
        let one : d ≤ c = no_later es fs l h c d p.0.0 each a.below p.0.1 (subst (λ x. AllByRecursion (After x h) (take d fs)) (sym both.0) (subst (λ y. AllByRecursion (After m y) (take d fs)) (sym both.1) b.first)) in
        let other : c ≤ d = no_later fs es m k d c q.0.0 (turned es fs each) b.below q.0.1 (subst (λ x. AllByRecursion (After x k) (take c es)) both.0 (subst (λ y. AllByRecursion (After l y) (take c es)) both.1 a.first)) in
        let at : c ≡ d = omega (arith, one, other) in
        inl (cc (both.0, both.1, at))
    chosen (inl a) (inr b) = absurd (omega (arith, a.below, (same.0 a.below).0, b.at_top))
    chosen (inr a) (inl b) = absurd (omega (arith, b.below, same.1 (omega (arith, a.at_top))))
    chosen (inr a) (inr b) = inr (a.at_top, b.at_top)

-- ---- references

refers_same : (e f : Entry) → Agree e f → Agree (referred e) (referred f)
refers_same e f (inl is) = inl (ap referred is)
refers_same Nothing f (inr h) = absurd h.0
refers_same (Least l h c) Nothing (inr g) = absurd g.1
refers_same (Least l h c) (Least m k d) (inr g) = inr g

-- the height is below k
abbrev IsLower : ℕ → Entry → Type 0
IsLower k Nothing = Unit {0}
IsLower k (Least l h c) = h < k

lower_by_one : (k : ℕ) (e : Entry) → IsLower (suc k) (referred e) → IsLower k e
lower_by_one k Nothing low = tt
lower_by_one k (Least l h c) low = omega arith

abbrev height : Entry → ℕ
height Nothing = 0
height (Least l h c) = suc h

is_lower : (e : Entry) → IsLower (height e) e
is_lower Nothing = tt
is_lower (Least l h c) = omega arith

no_height : (e f : Entry) → IsLower 0 e → SamePair e f → Agree e f
no_height Nothing Nothing low same = inl refl
no_height Nothing (Least m k d) low same = absurd same
no_height (Least l h c) f low same = absurd (omega arith)

-- ---- two certificates

module _ (roots : List Part) (cert other : List Entry) (accepted : IsAccepted roots cert) (also : IsAccepted roots other) where
  abbrev at : ℕ → Entry
  at n = entry_at cert n

  abbrev FitBoth : ℕ → Part → Type 0
  FitBoth n p = TreeFits (entry_at cert) (root_number roots) n p × TreeFits (entry_at other) (root_number roots) n p

  pair_at : (n : ℕ) (p : Part) → FitBoth n p → SamePair (entry_at cert n) (entry_at other n)
  pair_at n p fit =
      same_pair (λ k s. Gen roots k p s) (entry_at cert n) (entry_at other n)
      (λ k. upper (entry_at cert) (root_number roots) k (RuleGen roots k) (rule_upper roots cert accepted k) n p fit.0)
      (λ k s g. lower (entry_at cert) (root_number roots) k (RuleGen roots k) (rule_lower roots cert accepted k) n p s fit.0 g)
      (λ k. upper (entry_at other) (root_number roots) k (RuleGen roots k) (rule_upper roots other also k) n p fit.1)
      (λ k s g. lower (entry_at other) (root_number roots) k (RuleGen roots k) (rule_lower roots other also k) n p s fit.1 g)

  pairs_at : (n : ℕ) (ps : Parts) → TreesFit (entry_at cert) (root_number roots) n ps → TreesFit (entry_at other) (root_number roots) n ps → EachPair (map (entry_at cert) (numbers n ps)) (map (entry_at other) (numbers n ps))
  pairs_at n end g h = tt
  pairs_at n (next p ps) g h = (pair_at n p (g.0, h.0), pairs_at (n + length (subparts p)) ps g.1 h.1)

  abbrev AgreeBelow : ℕ → Type 0
  AgreeBelow k = (n : ℕ) (p : Part) → FitBoth n p → IsLower k (entry_at cert n) → Agree (entry_at cert n) (entry_at other n)

  beyond : (r : ℕ) (es : List Entry) → length es ≡ length (parts_of roots) → slice_get roots r ≡ None → entry_at es (root_number roots r) ≡ Nothing
  beyond r es one_each is = past_end es (root_number roots r) (omega (arith, one_each, ap (λ x. length (parts_of x)) (no_rule roots r is)))

  of_rule : (k r : ℕ) → AgreeBelow k → IsLower (suc k) (referred (entry_at cert (root_number roots r))) → (o : Option Part) → slice_get roots r ≡ o → Agree (entry_at cert (root_number roots r)) (entry_at other (root_number roots r))
  of_rule k r below low None is = inl (beyond r cert accepted.one_each is ∙ sym (beyond r other also.one_each is))
  of_rule k r below low (Some q) is =
      below (root_number roots r) q (rule_fits roots cert accepted r q is, rule_fits roots other also r q is) (lower_by_one k (entry_at cert (root_number roots r)) low)

  one_more : (k : ℕ) → AgreeBelow k → AgreeBelow (suc k)
  one_more k below n (quoted text exact) fit low = inl (fit.0 ∙ sym fit.1)
  one_more k below n (series characters) fit low = inl (fit.0 ∙ sym fit.1)
  one_more k below n (span bottom high) fit low = inl (span_same bottom high (entry_at cert n) (entry_at other n) fit.0 fit.1)
  one_more k below n (seq ps) fit low =
      by_pair (entry_at cert n) (entry_at other n) (pair_at n (seq ps) fit)
      (subst IsPlain (sym fit.0.0) (all_plain (map (entry_at cert) (numbers (suc n) ps))))
      (subst IsPlain (sym fit.1.0) (all_plain (map (entry_at other) (numbers (suc n) ps))))
  one_more k below n (alt ps) fit low =
      choice_same (map (entry_at cert) (numbers (suc n) ps)) (map (entry_at other) (numbers (suc n) ps)) (entry_at cert n) (entry_at other n)
      (pairs_at (suc n) ps fit.0.1 fit.1.1) (pair_at n (alt ps) fit) fit.0.0 fit.1.0
  one_more k below n (rep least most p) fit low =
      by_pair (entry_at cert n) (entry_at other n) (pair_at n (rep least most p) fit)
      (rep_plain least most (entry_at cert (suc n)) (entry_at cert n) fit.0.0)
      (rep_plain least most (entry_at other (suc n)) (entry_at other n) fit.1.0)
  one_more k below n (ref name None) fit low = inl (fit.0 ∙ sym fit.1)
  one_more k below n (ref name (Some r)) fit low =
      let same = refers_same (entry_at cert (root_number roots r)) (entry_at other (root_number roots r)) (of_rule k r below (subst (λ e. IsLower (suc k) e) fit.0 low) (slice_get roots r) refl) in
      subst (λ e. Agree e (entry_at other n)) (sym fit.0) (subst (λ f. Agree (referred (entry_at cert (root_number roots r))) f) (sym fit.1) same)
  one_more k below n opaque fit low = inl (fit.0 ∙ sym fit.1)

  agree_below : (k : ℕ) → AgreeBelow k
  agree_below zero n p fit low = no_height (entry_at cert n) (entry_at other n) low (pair_at n p fit)
  agree_below (suc k) n p fit low = one_more k (agree_below k) n p fit low

  no_part : (ps : List Part) (n : ℕ) → slice_get ps n ≡ None → length ps ≤ n
  no_part [] n is = omega arith
  no_part (p ∷ ps) zero is = absurd (none-some p (sym is))
  no_part (p ∷ ps) (suc n) is = let le : length ps ≤ n = no_part ps n is in omega arith

  agree_at : (n : ℕ) (o : Option Part) → slice_get (parts_of roots) n ≡ o → Agree (entry_at cert n) (entry_at other n)
  agree_at n None is =
      let le : length (parts_of roots) ≤ n = no_part (parts_of roots) n is in
      inl (past_end cert n (omega (arith, accepted.one_each)) ∙ sym (past_end other n (omega (arith, also.one_each))))
  agree_at n (Some p) is =
      agree_below (height (entry_at cert n)) n p (part_fits roots cert accepted n p is, part_fits roots other also n p is) (is_lower (entry_at cert n))

pub accepted_agree : AcceptedAgree
accepted_agree roots cert other accepted also =
    (accepted.one_each ∙ sym also.one_each, λ n. agree_at roots cert other accepted also n (slice_get (parts_of roots) n) refl)
