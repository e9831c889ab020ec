-- A rule has at most one sentence.
use Rattle.std.proofs.Common.{◌≡◌, ℕ, zero, suc, ◌+◌, ◌<◌, inl, inr, ⊎_elim, List, [], ◌∷◌, ◌++◌, length, Some, None, refl, sym, ap, ◌∙◌, subst, arith}
use Rattle.std.proofs.lemmas.Option.{same_Some}
use Rattle.std.specs.List.{concat, AllByRecursion}
use Rattle.std.specs.Prelude.{slice_get}
use Rattle.abnf_cert.specs.declared.entry.Entry.{Entry}
use Rattle.abnf_cert.specs.declared.entry.Entry.TheVariants.{Least}
use Rattle.abnf_parts.specs.Part.{Part, Parts, quoted, series, span, seq, alt, rep, ref, opaque, end, next, root_number}
use Rattle.abnf_parts.specs.Generates.{IsLeastPair, RuleGen, Generates}
use Rattle.abnf_cert.specs.Accepted.{top, referred, entry_at, IsAccepted}
use Rattle.abnf_least.specs.Sentence.{PartSentence, EachSentence, FirstSentence, RuleSentence, IsSentence}
use Rattle.abnf_least.proofs.Named.{Named, rule_named}

same_value : (roots : List Part) (p : Part) (n k m j : ℕ) → IsLeastPair roots p n k → IsLeastPair roots p m j → (n ≡ m) × (k ≡ j)
same_value roots p n k m j v u =
    ⊎_elim
    (λ before. ⊎_elim (λ after. absurd (omega (arith, v.reached.2, u.reached.2))) (λ after. absurd (omega (arith, v.reached.2, u.reached.2, after.0))) (v.least u.reached.0 j u.reached.1))
    (λ at. ⊎_elim (λ after. absurd (omega (arith, v.reached.2, u.reached.2, at.0))) (λ after. (omega (arith, v.reached.2, u.reached.2, at.0), omega (arith, at.1, after.1))) (v.least u.reached.0 j u.reached.1))
    (u.least v.reached.0 k v.reached.1)

same_lists : (P Q : List ℕ → Type 0) → ((s t : List ℕ) → P s → Q t → s ≡ t) → (ss ts : List (List ℕ)) → AllByRecursion P ss → AllByRecursion Q ts → length ss ≡ length ts → ss ≡ ts
same_lists P Q f [] [] hs gs e = refl
same_lists P Q f [] (t ∷ ts) hs gs e = absurd (omega arith)
same_lists P Q f (s ∷ ss) [] hs gs e = absurd (omega arith)
same_lists P Q f (s ∷ ss) (t ∷ ts) hs gs e = both s t ss ts (f s t hs.0 gs.0) (same_lists P Q f ss ts hs.1 gs.1 (omega arith))
  where
    both : (s t : List ℕ) (ss ts : List (List ℕ)) → s ≡ t → ss ≡ ts → s ∷ ss ≡ t ∷ ts
    both s t ss ts a b = ap (λ x. x ∷ ss) a ∙ ap (λ x. t ∷ x) b

module _ (roots : List Part) where
  module _ (R S : ℕ → List ℕ → Type 0) (same : (r : ℕ) (s t : List ℕ) → R r s → S r t → s ≡ t) where
    mutual
      part_same : (p : Part) (s t : List ℕ) → PartSentence roots R p s → PartSentence roots S p t → s ≡ t
      part_same (quoted text exact) s t h g = h ∙ sym g
      part_same (series characters) s t h g = h ∙ sym g
      part_same (span low high) s t h g = h.1 ∙ sym g.1
      part_same (seq ps) s t h g = each_same ps s t h g
      part_same (alt ps) s t h g =
          let is = same_value roots (alt ps) h.0 h.1 g.0 g.1 h.2 g.2 in
          first_same h.0 h.1 ps s t h.3
          (subst (λ k. FirstSentence roots S h.0 k ps t) (sym is.1) (subst (λ n. FirstSentence roots S n g.1 ps t) (sym is.0) g.3))
      part_same (rep least most p) s t h g =
          let lists = same_lists (PartSentence roots R p) (PartSentence roots S p) (part_same p) h.strings g.strings h.each g.each (omega (arith, h.enough, h.few, g.enough, g.few)) in
          h.joined ∙ ap concat lists ∙ sym g.joined
      part_same (ref name None) s t h g = absurd h
      part_same (ref name (Some r)) s t h g = same r s t h g
      part_same opaque s t h g = absurd h

      each_same : (ps : Parts) (s t : List ℕ) → EachSentence roots R ps s → EachSentence roots S ps t → s ≡ t
      each_same end s t h g = h ∙ sym g
      each_same (next p ps) s t h g =
          let front = part_same p h.front g.front h.of_front g.of_front in
          let back = each_same ps h.back g.back h.of_back g.of_back in
          h.joined ∙ ap (λ x. x ++ h.back) front ∙ ap (λ x. g.front ++ x) back ∙ sym g.joined

      first_same : (n k : ℕ) (ps : Parts) (s t : List ℕ) → FirstSentence roots R n k ps s → FirstSentence roots S n k ps t → s ≡ t
      first_same n k end s t h g = absurd h
      first_same n k (next p ps) s t (inl h) (inl g) = part_same p s t h.1 g.1
      first_same n k (next p ps) s t (inl h) (inr g) = absurd (g.0 h.0)
      first_same n k (next p ps) s t (inr h) (inl g) = absurd (h.0 g.0)
      first_same n k (next p ps) s t (inr h) (inr g) = first_same n k ps s t h.1 g.1

  rule_same : (k j r : ℕ) (s t : List ℕ) → RuleSentence roots k r s → RuleSentence roots j r t → s ≡ t
  rule_same zero j r s t h g = absurd h
  rule_same (suc k) zero r s t h g = absurd g
  rule_same (suc k) (suc j) r s t h g =
      let is : g.0 ≡ h.0 = same_Some g.0 h.0 (sym g.1 ∙ h.1) in
      part_same (RuleSentence roots k) (RuleSentence roots j) (rule_same k j) h.0 s t h.2
      (subst (λ p. PartSentence roots (RuleSentence roots j) p t) is g.2)

  pub one_sentence : (r : ℕ) (s t : List ℕ) → IsSentence roots r s → IsSentence roots r t → s ≡ t
  one_sentence r s t h g = rule_same h.0 g.0 r s t h.1 g.1

-- the rule's root generates the string
rule_generates : (roots : List Part) (k r : ℕ) (s : List ℕ) → RuleGen roots k r s → (root : Part) × (slice_get roots r ≡ Some root) × Generates roots root s
rule_generates roots zero r s g = absurd g
rule_generates roots (suc k) r s g = (g.0, g.1, (k, g.2))

-- The sentence of a rule whose root has an accepted length below the top is generated by it, and has that length.
pub sentence_of_accepted : (roots : List Part) (cert : List Entry) → IsAccepted roots cert → (r l h c : ℕ) → entry_at cert (root_number roots r) ≡ Least l h c → l < top →
    (s : List ℕ) → IsSentence roots r s → ((root : Part) × (slice_get roots r ≡ Some root) × Generates roots root s) × (length s ≡ l)
sentence_of_accepted roots cert accepted r l h c is below s sentence =
    let all : Named (h + 1) (RuleSentence roots (h + 1) r) (RuleGen roots (h + 1) r) (referred (Least l h c)) =
    subst (λ e. Named (h + 1) (RuleSentence roots (h + 1) r) (RuleGen roots (h + 1) r) (referred e)) is (rule_named roots cert accepted (h + 1) r) in
    let t = all below (omega arith) in
    let same : t.0 ≡ s = one_sentence roots r t.0 s (h + 1, t.1) sentence in
    (rule_generates roots (h + 1) r s (subst (λ x. RuleGen roots (h + 1) r x) same t.2), ap length (sym same) ∙ t.3)
