-- A sentence with more nested references allowed.
use Rattle.std.proofs.Common.{ℕ, zero, suc, ◌≤◌, inl, inr, List, [], ◌∷◌, Some, None, arith}
use Rattle.std.specs.List.{AllByRecursion}
use Rattle.abnf_parts.specs.Part.{Part, Parts, quoted, series, span, seq, alt, rep, ref, opaque, end, next}
use Rattle.abnf_least.specs.Sentence.{PartSentence, EachSentence, FirstSentence, RuleSentence}

pub all_more : {X : Type 0} (P Q : X → Type 0) → ((x : X) → P x → Q x) → (xs : List X) → AllByRecursion P xs → AllByRecursion Q xs
all_more P Q f [] h = tt
all_more P Q f (x ∷ xs) h = (f x h.0, all_more P Q f xs h.1)

module _ (roots : List Part) where
  module _ (R S : ℕ → List ℕ → Type 0) (more : (r : ℕ) (s : List ℕ) → R r s → S r s) where
    mutual
      pub part_more : (p : Part) (s : List ℕ) → PartSentence roots R p s → PartSentence roots S p s
      part_more (quoted text exact) s h = h
      part_more (series characters) s h = h
      part_more (span low high) s h = h
      part_more (seq ps) s h = each_more ps s h
      part_more (alt ps) s h = (h.0, h.1, h.2, first_more h.0 h.1 ps s h.3)
      part_more (rep least most p) s h =
          record { strings = h.strings; enough = h.enough; few = h.few; each = all_more (PartSentence roots R p) (PartSentence roots S p) (part_more p) h.strings h.each; joined = h.joined }
      part_more (ref name None) s h = h
      part_more (ref name (Some r)) s h = more r s h
      part_more opaque s h = h

      pub each_more : (ps : Parts) (s : List ℕ) → EachSentence roots R ps s → EachSentence roots S ps s
      each_more end s h = h
      each_more (next p ps) s h =
          record { front = h.front; back = h.back; of_front = part_more p h.front h.of_front; of_back = each_more ps h.back h.of_back; joined = h.joined }

      first_more : (n k : ℕ) (ps : Parts) (s : List ℕ) → FirstSentence roots R n k ps s → FirstSentence roots S n k ps s
      first_more n k end s h = h
      first_more n k (next p ps) s (inl h) = inl (h.0, part_more p s h.1)
      first_more n k (next p ps) s (inr h) = inr (h.0, first_more n k ps s h.1)

  pub rule_more : (k j : ℕ) → k ≤ j → (r : ℕ) (s : List ℕ) → RuleSentence roots k r s → RuleSentence roots j r s
  rule_more zero j le r s h = absurd h
  rule_more (suc k) zero le r s h = absurd (omega arith)
  rule_more (suc k) (suc j) le r s h =
      (h.0, h.1, part_more (RuleSentence roots k) (RuleSentence roots j) (rule_more k j (omega arith)) h.0 s h.2)

  pub up : (k j : ℕ) → k ≤ j → (p : Part) (s : List ℕ) → PartSentence roots (RuleSentence roots k) p s → PartSentence roots (RuleSentence roots j) p s
  up k j le p s h = part_more (RuleSentence roots k) (RuleSentence roots j) (rule_more k j le) p s h
