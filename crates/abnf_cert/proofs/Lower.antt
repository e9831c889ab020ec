-- No string is below an accepted entry.
use Rattle.std.proofs.Common.{◌≡◌, ℕ, zero, suc, ◌+◌, ◌*◌, ◌<◌, ◌≤◌, ◌⊎◌, inl, inr, ⊎_elim, Bool, true, false, List, [], ◌∷◌, ◌++◌, length, Option, Some, None, sym, ap, ◌∙◌, subst, arith, length-append, map, mul-le-mul_right}
use Rattle.std.proofs.lemmas.List.{length-map}
use Rattle.std.specs.List.{concat, AllByRecursion}
use Rattle.std.specs.Char.{to_ascii_lowercase}
use Rattle.abnf_cert.specs.declared.entry.Entry.{Entry}
use Rattle.abnf_cert.specs.declared.entry.Entry.TheVariants.{Nothing, Least}
use Rattle.abnf_parts.specs.Part.{Part, Parts, quoted, series, span, seq, alt, rep, ref, opaque, end, next, subparts, root_number, numbers}
use Rattle.abnf_parts.specs.Generates.{Spells, UpTo, Joins, PartGen, EachGen, SomeGen, RuleGen}
use Rattle.abnf_cert.specs.Accepted.{top, in_a_row, all_in_a_row, times, referred, Exceeds, NotBefore, Saturated, IsChoice, entry_at, IsAccepted}
use Rattle.abnf_cert.proofs.Below.{TreeFits, TreesFit, rule_fits}

-- a string that is generated with at most k nested references isn't below the entry
abbrev pub NotBelow : ℕ → List ℕ → Entry → Type 0
NotBelow k s Nothing = ⊥
NotBelow k s (Least l h c) = (l ≤ length s) × (l < top → length s ≡ l → h ≤ k)

module _ (k : ℕ) where
  at_zero : (l : ℕ) (s : List ℕ) → l ≤ length s → NotBelow k s (Least l 0 0)
  at_zero l s le = (le, λ _ _. omega arith)

  quoted_lower : (text : List ℕ) (exact : Bool) (s : List ℕ) → Spells text exact s → NotBelow k s (Least (length text) 0 0)
  quoted_lower text true s g = at_zero (length text) s (omega (arith, ap length g))
  quoted_lower text false s g =
      at_zero (length text) s (omega (arith, ap length g, length-map s to_ascii_lowercase, length-map text to_ascii_lowercase))

  span_lower : (low high : ℕ) (s : List ℕ) (e : Entry) → ((low ≤ high) × (e ≡ Least 1 0 0)) ⊎ ((high < low) × (e ≡ Nothing)) → (c : ℕ) × (low ≤ c) × (c ≤ high) × (s ≡ c ∷ []) → NotBelow k s e
  span_lower low high s e (inl h) g = subst (λ x. NotBelow k s x) (sym h.1) (at_zero 1 s (omega (arith, ap length g.3)))
  span_lower low high s e (inr h) g = absurd (omega (arith, h.0, g.1, g.2))

  in_a_row_lower : (a b s : List ℕ) (e f : Entry) → s ≡ a ++ b → NotBelow k a e → NotBelow k b f → NotBelow k s (in_a_row e f)
  in_a_row_lower a b s Nothing f j g h = g
  in_a_row_lower a b s (Least l h c) Nothing j g i = i
  in_a_row_lower a b s (Least l h c) (Least m n d) j g i =
      let all : length s ≡ length a + length b = ap length j ∙ length-append a b in (
        omega (arith, g.0, i.0),
        λ below is.
            let la : length a ≡ l = omega (arith, g.0, i.0) in
            let lb : length b ≡ m = omega (arith, g.0, i.0) in
            let ha : h ≤ k = g.1 (omega arith) la in
            let hb : n ≤ k = i.1 (omega arith) lb in
            omega arith,
      )

  -- one of these entries has the string not below it
  abbrev pub SomeNotBelow : List ℕ → List Entry → Type 0
  SomeNotBelow s [] = ⊥
  SomeNotBelow s (e ∷ es) = NotBelow k s e ⊎ SomeNotBelow s es

  none_lower : (es : List Entry) (s : List ℕ) → AllByRecursion (λ e. e ≡ Nothing) es → SomeNotBelow s es → ⊥
  none_lower [] s h g = g
  none_lower (e ∷ es) s h (inl g) = let x : NotBelow k s Nothing = subst (λ x. NotBelow k s x) h.0 g in x
  none_lower (e ∷ es) s h (inr g) = none_lower es s h.1 g

  not_before_lower : (l h c : ℕ) (s : List ℕ) (e : Entry) → NotBefore l h e → NotBelow k s e → NotBelow k s (Least l h c)
  not_before_lower l h c s Nothing b g = absurd g
  not_before_lower l h c s (Least m n d) (inl b) g = (omega (arith, g.0), λ below is. absurd (omega (arith, g.0)))
  not_before_lower l h c s (Least m n d) (inr b) g = (
    omega (arith, g.0, b.0),
    λ below is.
        let le : n ≤ k = g.1 (omega (arith, b.0)) (omega (arith, b.0)) in
        omega (arith, b.1),
  )

  first_lower : (l h c : ℕ) (es : List Entry) (s : List ℕ) → AllByRecursion (NotBefore l h) es → SomeNotBelow s es → NotBelow k s (Least l h c)
  first_lower l h c [] s b g = absurd g
  first_lower l h c (e ∷ es) s b (inl g) = not_before_lower l h c s e b.0 g
  first_lower l h c (e ∷ es) s b (inr g) = first_lower l h c es s b.1 g

  top_lower : (h c : ℕ) (s : List ℕ) (e : Entry) → Saturated e → NotBelow k s e → NotBelow k s (Least top h c)
  top_lower h c s Nothing b g = absurd g
  top_lower h c s (Least m n d) b g = (omega (arith, g.0, b), λ below is. absurd (omega (arith, below)))

  saturated_lower : (h c : ℕ) (es : List Entry) (s : List ℕ) → AllByRecursion Saturated es → SomeNotBelow s es → NotBelow k s (Least top h c)
  saturated_lower h c [] s b g = absurd g
  saturated_lower h c (e ∷ es) s b (inl g) = top_lower h c s e b.0 g
  saturated_lower h c (e ∷ es) s b (inr g) = saturated_lower h c es s b.1 g

  choice_lower : (es : List Entry) (e : Entry) (s : List ℕ) → IsChoice es e → SomeNotBelow s es → NotBelow k s e
  choice_lower es Nothing s h g = none_lower es s h g
  choice_lower es (Least l h c) s ch g =
      ⊎_elim
      (λ first. first_lower l h c es s first.least g)
      (λ full. subst (λ x. NotBelow k s (Least x h c)) (sym full.at_top) (saturated_lower h c es s full.all g))
      ch.1

  -- copies are at least as long as said
  copies : (P : List ℕ → Type 0) (l : ℕ) (strings : List (List ℕ)) → ((t : List ℕ) → P t → l ≤ length t) → AllByRecursion P strings → length strings * l ≤ length (concat strings)
  copies P l [] le all = omega arith
  copies P l (t ∷ ts) le all =
      let one : l ≤ length t = le t all.0 in
      let more : length ts * l ≤ length (concat ts) = copies P l ts le all.1 in
      omega (arith, length-append t (concat ts))

  times_lower : (P : List ℕ → Type 0) (least : ℕ) (e : Entry) (strings : List (List ℕ)) (s : List ℕ) → ((t : List ℕ) → P t → NotBelow k t e) → least ≤ length strings → AllByRecursion P strings → s ≡ concat strings → NotBelow k s (times least e)
  times_lower P zero e strings s low enough all j = at_zero 0 s (omega arith)
  times_lower P (suc n) e [] s low enough all j = absurd (omega arith)
  times_lower P (suc n) Nothing (t ∷ ts) s low enough all j = absurd (low t all.0)
  times_lower P (suc n) (Least l h c) (t ∷ ts) s low enough all j =
      let one : l ≤ length t = (low t all.0).0 in
      let more : length ts * l ≤ length (concat ts) = copies P l ts (λ u x. (low u x).0) all.1 in
      let fewer : n ≤ length ts = omega arith in
      let product : n * l ≤ length ts * l = mul-le-mul_right l fewer in
      let whole : length s ≡ length t + length (concat ts) = ap length j ∙ length-append t (concat ts) in
      let whole_low : suc n * l ≤ length s = omega arith in (
        omega arith,
        λ below is.
            let exact : length s ≡ suc n * l = omega arith in
            let first : length t ≡ l = omega arith in
            let short : l < top = omega arith in
            (low t all.0).1 short first,
      )

  too_few : (most : Option ℕ) (least n : ℕ) → Exceeds most least → UpTo most n → least ≤ n → ⊥
  too_few None least n x u le = x
  too_few (Some most) least n x u le = omega arith

  rep_lower : (P : List ℕ → Type 0) (least : ℕ) (most : Option ℕ) (e f : Entry) (s : List ℕ) → ((t : List ℕ) → P t → NotBelow k t e) → (UpTo most least × (f ≡ times least e)) ⊎ (Exceeds most least × (f ≡ Nothing)) → Joins P least most s → NotBelow k s f
  rep_lower P least most e f s low (inl h) g =
      subst (λ x. NotBelow k s x) (sym h.1) (times_lower P least e g.strings s low g.enough g.each g.joined)
  rep_lower P least most e f s low (inr h) g = absurd (too_few most least (length g.strings) h.0 g.few g.enough)

module _ (at : ℕ → Entry) (root : ℕ → ℕ) (k : ℕ) (Rule : ℕ → List ℕ → Type 0) (of_rule : (r : ℕ) (s : List ℕ) → Rule r s → NotBelow k s (referred (at (root r)))) where
  mutual
    pub lower : (n : ℕ) (p : Part) (s : List ℕ) → TreeFits at root n p → PartGen Rule p s → NotBelow k s (at n)
    lower n (quoted text exact) s h g = subst (λ x. NotBelow k s x) (sym h) (quoted_lower k text exact s g)
    lower n (series characters) s h g = subst (λ x. NotBelow k s x) (sym h) (at_zero k (length characters) s (omega (arith, ap length g)))
    lower n (span low high) s h g = span_lower k low high s (at n) h g
    lower n (seq ps) s h g = subst (λ x. NotBelow k s x) (sym h.0) (lower_each (suc n) ps s h.1 g)
    lower n (alt ps) s h g = choice_lower k (map at (numbers (suc n) ps)) (at n) s h.0 (lower_some (suc n) ps s h.1 g)
    lower n (rep least most p) s h g = rep_lower k (PartGen Rule p) least most (at (suc n)) (at n) s (λ t x. lower (suc n) p t h.1 x) h.0 g
    lower n (ref name None) s h g = absurd g
    lower n (ref name (Some r)) s h g = subst (λ x. NotBelow k s x) (sym h) (of_rule r s g)
    lower n opaque s h g = absurd g

    lower_each : (n : ℕ) (ps : Parts) (s : List ℕ) → TreesFit at root n ps → EachGen Rule ps s → NotBelow k s (all_in_a_row (map at (numbers n ps)))
    lower_each n end s h g = at_zero k 0 s (omega arith)
    lower_each n (next p ps) s h g =
        in_a_row_lower k g.front g.back s (at n) (all_in_a_row (map at (numbers (n + length (subparts p)) ps))) g.joined
        (lower n p g.front h.0 g.of_front)
        (lower_each (n + length (subparts p)) ps g.back h.1 g.of_back)

    lower_some : (n : ℕ) (ps : Parts) (s : List ℕ) → TreesFit at root n ps → SomeGen Rule ps s → SomeNotBelow k s (map at (numbers n ps))
    lower_some n end s h g = absurd g
    lower_some n (next p ps) s h (inl g) = inl (lower n p s h.0 g)
    lower_some n (next p ps) s h (inr g) = inr (lower_some (n + length (subparts p)) ps s h.1 g)

-- one reference more
refers : (k : ℕ) (s : List ℕ) (e : Entry) → NotBelow k s e → NotBelow (suc k) s (referred e)
refers k s Nothing g = g
refers k s (Least l h c) g =
    (g.0, λ below is. let le : h ≤ k = g.1 below is in omega arith)

module _ (roots : List Part) (cert : List Entry) (accepted : IsAccepted roots cert) where
  pub rule_lower : (k r : ℕ) (s : List ℕ) → RuleGen roots k r s → NotBelow k s (referred (entry_at cert (root_number roots r)))
  rule_lower zero r s g = absurd g
  rule_lower (suc k) r s g =
      refers k s (entry_at cert (root_number roots r))
      (lower (entry_at cert) (root_number roots) k (RuleGen roots k) (rule_lower k) (root_number roots r) g.0 s (rule_fits roots cert accepted r g.0 g.1) g.2)
