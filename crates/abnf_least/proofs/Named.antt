-- Each part with an accepted length below the top has a sentence of that length.
use Rattle.std.proofs.Common.{◌≡◌, ℕ, zero, suc, ◌+◌, ◌*◌, ◌<◌, ◌≤◌, ◌⊎◌, inl, inr, ⊎_elim, true, false, List, [], ◌∷◌, ◌++◌, length, Option, Some, None, refl, sym, ap, subst, arith, length-append, map, replicate, take}
use Rattle.std.proofs.lemmas.Option.{none-some, same_Some}
use Rattle.std.specs.List.{concat, AllByRecursion}
use Rattle.std.specs.Prelude.{slice_get}
use Rattle.abnf_cert.specs.declared.entry.Entry.{Entry}
use Rattle.abnf_cert.specs.declared.entry.Entry.TheVariants.{Nothing, Least}
use Rattle.abnf_parts.specs.Part.{Part, Parts, quoted, series, span, seq, alt, rep, ref, opaque, end, next, subparts, root_number, parts_of, numbers}
use Rattle.abnf_parts.specs.Generates.{Spells, UpTo, Joins, Split, PartGen, EachGen, SomeGen, RuleGen, Gen, IsLeastPair}
use Rattle.abnf_cert.specs.Accepted.{top, in_a_row, all_in_a_row, times, referred, Exceeds, After, IsChoice, entry_at, IsAccepted}
use Rattle.abnf_cert.specs.Says.{EntrySays}
use Rattle.abnf_least.specs.Sentence.{PartSentence, EachSentence, FirstSentence, RuleSentence}
use Rattle.abnf_cert.proofs.Below.{TreeFits, TreesFit, rule_fits, part_fits}
use Rattle.abnf_cert.proofs.Lower.{NotBelow}
use Rattle.abnf_cert.proofs.Upper.{joins_copies, length_joined, past_end, no_rule}
use Rattle.abnf_cert.proofs.Right.{low_at, says_at}

-- a string with both properties, of this length
abbrev pub Both : (List ℕ → Type 0) → (List ℕ → Type 0) → ℕ → Type 0
Both P Q l = (s : List ℕ) × P s × Q s × (length s ≡ l)

-- there is one, if the entry is below the top and k isn't below its height
abbrev pub Named : ℕ → (List ℕ → Type 0) → (List ℕ → Type 0) → Entry → Type 0
Named k P Q Nothing = Unit {0}
Named k P Q (Least l h c) = l < top → h ≤ k → Both P Q l

module _ (k : ℕ) where
  in_a_row_named : (A B C D : List ℕ → Type 0) (e f : Entry) → Named k A C e → Named k B D f → Named k (Split A B) (Split C D) (in_a_row e f)
  in_a_row_named A B C D Nothing f g i = tt
  in_a_row_named A B C D (Least l h c) Nothing g i = tt
  in_a_row_named A B C D (Least l h c) (Least m n d) g i = λ below le.
      let a = g (omega arith) (omega arith) in
      let b = i (omega arith) (omega arith) in
      let la : length a.0 ≡ l = a.3 in
      let lb : length b.0 ≡ m = b.3 in (
        a.0 ++ b.0,
        record { front = a.0; back = b.0; of_front = a.1; of_back = b.1; joined = refl },
        record { front = a.0; back = b.0; of_front = a.2; of_back = b.2; joined = refl },
        omega (arith, length-append a.0 b.0),
      )

  times_named : (P Q : List ℕ → Type 0) (least : ℕ) (most : Option ℕ) (e : Entry) → UpTo most least → Named k P Q e → Named k (Joins P least (Some least)) (Joins Q least most) (times least e)
  times_named P Q zero most e u g = λ below le.
      ([], record { strings = []; enough = omega arith; few = omega arith; each = tt; joined = refl }, record { strings = []; enough = omega arith; few = u; each = tt; joined = refl }, refl)
  times_named P Q (suc n) most Nothing u g = tt
  times_named P Q (suc n) most (Least l h c) u g = λ below le.
      let short : l < top = omega arith in
      let t = g short le in
      let all : length (concat (replicate (suc n) t.0)) ≡ suc n * length t.0 = length_joined k (suc n) t.0 in
      let same : suc n * length t.0 ≡ suc n * l = ap (λ x. suc n * x) t.3 in
      let few : suc n ≤ suc n = omega arith in
      (concat (replicate (suc n) t.0), joins_copies k P (suc n) (Some (suc n)) t.0 few t.1, joins_copies k Q (suc n) most t.0 u t.2, omega arith)

  rep_named : (P Q : List ℕ → Type 0) (least : ℕ) (most : Option ℕ) (e f : Entry) → Named k P Q e → (UpTo most least × (f ≡ times least e)) ⊎ (Exceeds most least × (f ≡ Nothing)) → Named k (Joins P least (Some least)) (Joins Q least most) f
  rep_named P Q least most e f g (inl h) = subst (λ x. Named k (Joins P least (Some least)) (Joins Q least most) x) (sym h.1) (times_named P Q least most e h.0 g)
  rep_named P Q least most e f g (inr h) = subst (λ x. Named k (Joins P least (Some least)) (Joins Q least most) x) (sym h.1) tt

module _ (roots : List Part) (cert : List Entry) (accepted : IsAccepted roots cert) where
  -- a part with a later pair doesn't have this value
  pub later : (p : Part) (e : Entry) (l h : ℕ) → l < top → ((j : ℕ) (s : List ℕ) → Gen roots j p s → NotBelow j s e) → After l h e → IsLeastPair roots p l h → ⊥
  later p Nothing l h below low a v = low h v.reached.0 v.reached.1
  later p (Least m j d) l h below low (inl a) v = absurd (omega (arith, (low h v.reached.0 v.reached.1).0, v.reached.2))
  later p (Least m j d) l h below low (inr a) v =
      let b = low h v.reached.0 v.reached.1 in
      let le : j ≤ h = b.1 (omega (arith, a.0)) (omega (arith, a.0, v.reached.2)) in
      absurd (omega (arith, a.1))

  pub value_at : (n : ℕ) (p : Part) (l h c : ℕ) → TreeFits (entry_at cert) (root_number roots) n p → entry_at cert n ≡ Least l h c → l < top → IsLeastPair roots p l h
  value_at n p l h c fits is below = ((subst (λ e. EntrySays roots p e) is (says_at roots cert accepted n p fits)).0 below).0

  choice_named : (k n : ℕ) (ps : Parts) (S G : ℕ → List ℕ → Type 0) (e : Entry) → IsChoice (map (entry_at cert) (numbers (suc n) ps)) e → ((l h c : ℕ) → e ≡ Least l h c → l < top → IsLeastPair roots (alt ps) l h) → ((c l h d : ℕ) → slice_get (map (entry_at cert) (numbers (suc n) ps)) c ≡ Some (Least l h d) → AllByRecursion (After l h) (take c (map (entry_at cert) (numbers (suc n) ps))) → l < top → h ≤ k → Both (FirstSentence roots S l h ps) (SomeGen G ps) l) → Named k (PartSentence roots S (alt ps)) (SomeGen G ps) e
  choice_named k n ps S G Nothing ch v f = tt
  choice_named k n ps S G (Least l h c) ch v f = λ below le.
      ⊎_elim
      (λ first. let s = f c l h ch.0.0 ch.0.1 first.first below le in (s.0, (l, h, v l h c refl below, s.1), s.2, s.3))
      (λ full. absurd (omega (arith, full.at_top)))
      ch.1

  module _ (k : ℕ) (S G : ℕ → List ℕ → Type 0) (of_rule : (r : ℕ) → Named k (S r) (G r) (referred (entry_at cert (root_number roots r)))) where
    at_entry : (n l h d : ℕ) (P Q : List ℕ → Type 0) → entry_at cert n ≡ Least l h d → l < top → h ≤ k → Named k P Q (entry_at cert n) → Both P Q l
    at_entry n l h d P Q is below le g = let f : Named k P Q (Least l h d) = subst (λ x. Named k P Q x) is g in f below le

    span_named : (n low high : ℕ) → ((low ≤ high) × (entry_at cert n ≡ Least 1 0 0)) ⊎ ((high < low) × (entry_at cert n ≡ Nothing)) → Named k (PartSentence roots S (span low high)) (PartGen G (span low high)) (entry_at cert n)
    span_named n low high (inl h) =
        subst (λ x. Named k (PartSentence roots S (span low high)) (PartGen G (span low high)) x) (sym h.1)
        (λ b le. (low ∷ [], (h.0, refl), (low, omega arith, h.0, refl), refl))
    span_named n low high (inr h) = subst (λ x. Named k (PartSentence roots S (span low high)) (PartGen G (span low high)) x) (sym h.1) tt

    mutual
      pub named : (n : ℕ) (p : Part) → TreeFits (entry_at cert) (root_number roots) n p → Named k (PartSentence roots S p) (PartGen G p) (entry_at cert n)
      named n (quoted text true) h = subst (λ x. Named k (λ s. s ≡ text) (λ s. s ≡ text) x) (sym h) (λ b le. (text, refl, refl, refl))
      named n (quoted text false) h = subst (λ x. Named k (λ s. s ≡ text) (Spells text false) x) (sym h) (λ b le. (text, refl, refl, refl))
      named n (series characters) h = subst (λ x. Named k (λ s. s ≡ characters) (λ s. s ≡ characters) x) (sym h) (λ b le. (characters, refl, refl, refl))
      named n (span low high) h = span_named n low high h
      named n (seq ps) h = subst (λ x. Named k (EachSentence roots S ps) (EachGen G ps) x) (sym h.0) (each_named (suc n) ps h.1)
      named n (alt ps) h =
          choice_named k n ps S G (entry_at cert n) h.0 (λ l j c is below. value_at n (alt ps) l j c h is below)
          (λ c l j d is before below le. first_named (suc n) ps h.1 c l j d is before below le)
      named n (rep least most p) h = rep_named k (PartSentence roots S p) (PartGen G p) least most (entry_at cert (suc n)) (entry_at cert n) (named (suc n) p h.1) h.0
      named n (ref name None) h = subst (λ x. Named k (λ s. ⊥) (λ s. ⊥) x) (sym h) tt
      named n (ref name (Some r)) h = subst (λ x. Named k (S r) (G r) x) (sym h) (of_rule r)
      named n opaque h = subst (λ x. Named k (λ s. ⊥) (λ s. ⊥) x) (sym h) tt

      each_named : (n : ℕ) (ps : Parts) → TreesFit (entry_at cert) (root_number roots) n ps → Named k (EachSentence roots S ps) (EachGen G ps) (all_in_a_row (map (entry_at cert) (numbers n ps)))
      each_named n end h = λ b le. ([], refl, refl, refl)
      each_named n (next p ps) h =
          in_a_row_named k (PartSentence roots S p) (EachSentence roots S ps) (PartGen G p) (EachGen G ps) (entry_at cert n) (all_in_a_row (map (entry_at cert) (numbers (n + length (subparts p)) ps)))
          (named n p h.0)
          (each_named (n + length (subparts p)) ps h.1)

      first_named : (n : ℕ) (ps : Parts) → TreesFit (entry_at cert) (root_number roots) n ps → (c l h d : ℕ) → slice_get (map (entry_at cert) (numbers n ps)) c ≡ Some (Least l h d) → AllByRecursion (After l h) (take c (map (entry_at cert) (numbers n ps))) → l < top → h ≤ k → Both (FirstSentence roots S l h ps) (SomeGen G ps) l
      first_named n end f c l h d is before below le = absurd (none-some (Least l h d) is)
      first_named n (next p ps) f zero l h d is before below le =
          let here = same_Some (entry_at cert n) (Least l h d) is in
          let s = at_entry n l h d (PartSentence roots S p) (PartGen G p) here below le (named n p f.0) in
          (s.0, inl (value_at n p l h d f.0 here below, s.1), inl s.2, s.3)
      first_named n (next p ps) f (suc c) l h d is before below le =
          let s = first_named (n + length (subparts p)) ps f.1 c l h d is before.1 below le in
          (s.0, inr (later p (entry_at cert n) l h below (low_at roots cert accepted n p f.0) before.0, s.1), inr s.2, s.3)

  refers : (k : ℕ) (P Q A B : List ℕ → Type 0) (e : Entry) → ((s : List ℕ) → P s → A s) → ((s : List ℕ) → Q s → B s) → Named k P Q e → Named (suc k) A B (referred e)
  refers k P Q A B Nothing f g h = tt
  refers k P Q A B (Least l m c) f g h = λ below le. let s = h below (omega arith) in (s.0, f s.0 s.1, g s.0 s.2, s.3)

  no_height : (P Q : List ℕ → Type 0) (e : Entry) → Named 0 P Q (referred e)
  no_height P Q Nothing = tt
  no_height P Q (Least l h c) = λ below le. absurd (omega arith)

  nothing_named : (k : ℕ) (P Q : List ℕ → Type 0) (e : Entry) → e ≡ Nothing → Named k P Q (referred e)
  nothing_named k P Q e is = subst (λ x. Named k P Q (referred x)) (sym is) tt

  at_rule : (k r : ℕ) → ((q : ℕ) → Named k (RuleSentence roots k q) (RuleGen roots k q) (referred (entry_at cert (root_number roots q)))) → (o : Option Part) → slice_get roots r ≡ o → Named (suc k) (RuleSentence roots (suc k) r) (RuleGen roots (suc k) r) (referred (entry_at cert (root_number roots r)))
  at_rule k r g None is =
      nothing_named (suc k) (RuleSentence roots (suc k) r) (RuleGen roots (suc k) r) (entry_at cert (root_number roots r))
      (past_end cert (root_number roots r) (omega (arith, accepted.one_each, ap (λ x. length (parts_of x)) (no_rule roots r is))))
  at_rule k r g (Some p) is =
      refers k (PartSentence roots (RuleSentence roots k) p) (Gen roots k p) (RuleSentence roots (suc k) r) (RuleGen roots (suc k) r) (entry_at cert (root_number roots r)) (λ s x. (p, is, x)) (λ s x. (p, is, x))
      (named k (RuleSentence roots k) (RuleGen roots k) g (root_number roots r) p (rule_fits roots cert accepted r p is))

  pub rule_named : (k r : ℕ) → Named k (RuleSentence roots k r) (RuleGen roots k r) (referred (entry_at cert (root_number roots r)))
  rule_named zero r = no_height (RuleSentence roots 0 r) (RuleGen roots 0 r) (entry_at cert (root_number roots r))
  rule_named (suc k) r = at_rule k r (rule_named k) (slice_get roots r) refl

  -- a part with a length below the top has a sentence of that length, which it generates
  pub part_named : (k n : ℕ) (p : Part) → slice_get (parts_of roots) n ≡ Some p → Named k (PartSentence roots (RuleSentence roots k) p) (Gen roots k p) (entry_at cert n)
  part_named k n p is = named k (RuleSentence roots k) (RuleGen roots k) (rule_named k) n p (part_fits roots cert accepted n p is)
