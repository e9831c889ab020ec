-- Trees that are the same but for a name generate the same strings and reach opaque parts from the same rules.
use Rattle.std.proofs.Common.{◌≡◌, ℕ, zero, suc, Some, None, List, [], ◌∷◌, ◌++◌, map, refl, sym, ap, subst, ◌∙◌, inl, inr}
use Rattle.std.specs.List.{AllByRecursion}
use Rattle.std.proofs.lemmas.List.{map-append}
use Rattle.abnf_parts.specs.Part.{Part, Parts, quoted, series, span, seq, alt, rep, ref, opaque, end, next, subparts, all_subparts}
use Rattle.abnf_parts.specs.Generates.{PartGen, EachGen, SomeGen, RuleGen, Gen, IsLeastPair}
use Rattle.abnf_rename.proofs.MappedTrees.{KeepsParts, get_back, get_there, reaches}
use Rattle.abnf_rename.specs.Parts.{renamed_name, renamed_part, renamed_parts, renamed_rules, KeepsMeaning}

all_to : {P Q : List ℕ → Type 0} (h : (s : List ℕ) → P s → Q s) (ss : List (List ℕ)) → AllByRecursion P ss → AllByRecursion Q ss
all_to h [] a = tt
all_to h (s ∷ ss) a = (h s a.0, all_to h ss a.1)

-- ---- what trees generate

module _ (r : ℕ) (new : List ℕ) where
  module _ (R S : ℕ → List ℕ → Type 0) (to : (q : ℕ) (s : List ℕ) → R q s → S q s) where
    mutual
      part_to : (p : Part) (s : List ℕ) → PartGen R p s → PartGen S (renamed_part r new p) s
      part_to (quoted text exact) s g = g
      part_to (series characters) s g = g
      part_to (span low high) s g = g
      part_to (seq ps) s g = each_to ps s g
      part_to (alt ps) s g = some_to ps s g
      part_to (rep least most p) s g = record { strings = g.strings; enough = g.enough; few = g.few; each = all_to (part_to p) g.strings g.each; joined = g.joined }
      part_to (ref name None) s g = g
      part_to (ref name (Some q)) s g = to q s g
      part_to opaque s g = g

      each_to : (ps : Parts) (s : List ℕ) → EachGen R ps s → EachGen S (renamed_parts r new ps) s
      each_to end s g = g
      each_to (next p ps) s g = record { front = g.front; back = g.back; of_front = part_to p g.front g.of_front; of_back = each_to ps g.back g.of_back; joined = g.joined }

      some_to : (ps : Parts) (s : List ℕ) → SomeGen R ps s → SomeGen S (renamed_parts r new ps) s
      some_to end s g = g
      some_to (next p ps) s (inl g) = inl (part_to p s g)
      some_to (next p ps) s (inr g) = inr (some_to ps s g)

  module _ (R S : ℕ → List ℕ → Type 0) (from : (q : ℕ) (s : List ℕ) → S q s → R q s) where
    mutual
      part_from : (p : Part) (s : List ℕ) → PartGen S (renamed_part r new p) s → PartGen R p s
      part_from (quoted text exact) s g = g
      part_from (series characters) s g = g
      part_from (span low high) s g = g
      part_from (seq ps) s g = each_from ps s g
      part_from (alt ps) s g = some_from ps s g
      part_from (rep least most p) s g = record { strings = g.strings; enough = g.enough; few = g.few; each = all_to (part_from p) g.strings g.each; joined = g.joined }
      part_from (ref name None) s g = g
      part_from (ref name (Some q)) s g = from q s g
      part_from opaque s g = g

      each_from : (ps : Parts) (s : List ℕ) → EachGen S (renamed_parts r new ps) s → EachGen R ps s
      each_from end s g = g
      each_from (next p ps) s g = record { front = g.front; back = g.back; of_front = part_from p g.front g.of_front; of_back = each_from ps g.back g.of_back; joined = g.joined }

      some_from : (ps : Parts) (s : List ℕ) → SomeGen S (renamed_parts r new ps) s → SomeGen R ps s
      some_from end s g = g
      some_from (next p ps) s (inl g) = inl (part_from p s g)
      some_from (next p ps) s (inr g) = inr (some_from ps s g)

  module _ (rules : List Part) where
    rule_to : (k q : ℕ) (s : List ℕ) → RuleGen rules k q s → RuleGen (renamed_rules r new rules) k q s
    rule_to zero q s g = g
    rule_to (suc k) q s g =
        (renamed_part r new g.0, get_there (renamed_part r new) rules q g.0 g.1, part_to (RuleGen rules k) (RuleGen (renamed_rules r new rules) k) (rule_to k) g.0 s g.2)

    rule_from : (k q : ℕ) (s : List ℕ) → RuleGen (renamed_rules r new rules) k q s → RuleGen rules k q s
    rule_from zero q s g = g
    rule_from (suc k) q s g =
        let b = get_back (renamed_part r new) rules q g.0 g.1 in
        let again : PartGen (RuleGen (renamed_rules r new rules) k) (renamed_part r new b.0) s = subst (λ p. PartGen (RuleGen (renamed_rules r new rules) k) p s) (sym b.2) g.2 in
        (b.0, b.1, part_from (RuleGen rules k) (RuleGen (renamed_rules r new rules) k) (rule_from k) b.0 s again)

    gen_to : (k : ℕ) (p : Part) (s : List ℕ) → Gen rules k p s → Gen (renamed_rules r new rules) k (renamed_part r new p) s
    gen_to k p s g = part_to (RuleGen rules k) (RuleGen (renamed_rules r new rules) k) (rule_to k) p s g

    gen_from : (k : ℕ) (p : Part) (s : List ℕ) → Gen (renamed_rules r new rules) k (renamed_part r new p) s → Gen rules k p s
    gen_from k p s g = part_from (RuleGen rules k) (RuleGen (renamed_rules r new rules) k) (rule_from k) p s g

    value_to : (p : Part) (n k : ℕ) → IsLeastPair rules p n k → IsLeastPair (renamed_rules r new rules) (renamed_part r new p) n k
    value_to p n k v = record { reached = (v.reached.0, gen_to k p v.reached.0 v.reached.1, v.reached.2); least = λ s j g. v.least s j (gen_from j p s g) }

    value_from : (p : Part) (n k : ℕ) → IsLeastPair (renamed_rules r new rules) (renamed_part r new p) n k → IsLeastPair rules p n k
    value_from p n k v = record { reached = (v.reached.0, gen_from k p v.reached.0 v.reached.1, v.reached.2); least = λ s j g. v.least s j (gen_to j p s g) }

  -- ---- what rules reach

  mutual
    subparts_renamed : (p : Part) → subparts (renamed_part r new p) ≡ map (renamed_part r new) (subparts p)
    subparts_renamed (quoted text exact) = refl
    subparts_renamed (series characters) = refl
    subparts_renamed (span low high) = refl
    subparts_renamed (seq ps) = ap (λ l. seq (renamed_parts r new ps) ∷ l) (all_renamed ps)
    subparts_renamed (alt ps) = ap (λ l. alt (renamed_parts r new ps) ∷ l) (all_renamed ps)
    subparts_renamed (rep least most p) = ap (λ l. rep least most (renamed_part r new p) ∷ l) (subparts_renamed p)
    subparts_renamed (ref name rule) = refl
    subparts_renamed opaque = refl

    all_renamed : (ps : Parts) → all_subparts (renamed_parts r new ps) ≡ map (renamed_part r new) (all_subparts ps)
    all_renamed end = refl
    all_renamed (next p ps) =
        (λ i. subparts_renamed p i ++ all_renamed ps i) ∙ sym (map-append (renamed_part r new) (subparts p) (all_subparts ps))

  opaque_back : (p : Part) → renamed_part r new p ≡ opaque → p ≡ opaque
  opaque_back (quoted text exact) e = absurd (cc)
  opaque_back (series characters) e = absurd (cc)
  opaque_back (span low high) e = absurd (cc)
  opaque_back (seq ps) e = absurd (cc)
  opaque_back (alt ps) e = absurd (cc)
  opaque_back (rep least most p) e = absurd (cc)
  opaque_back (ref name rule) e = absurd (cc)
  opaque_back opaque e = refl

  ref_back : (p : Part) (name : List ℕ) (q : ℕ) → renamed_part r new p ≡ ref name (Some q) → (other : List ℕ) × (p ≡ ref other (Some q))
  ref_back (quoted text exact) name q e = absurd (cc)
  ref_back (series characters) name q e = absurd (cc)
  ref_back (span low high) name q e = absurd (cc)
  ref_back (seq ps) name q e = absurd (cc)
  ref_back (alt ps) name q e = absurd (cc)
  ref_back (rep least most p) name q e = absurd (cc)
  ref_back (ref other rule) name q e = let same : rule ≡ Some q = cc in (other, ap (ref other) same)
  ref_back opaque name q e = absurd (cc)

  keeps_parts : KeepsParts (renamed_part r new)
  keeps_parts = record {
    inside = subparts_renamed;
    opaque_to = refl;
    opaque_from = opaque_back;
    ref_to = λ name q. (renamed_name r new name (Some q), refl);
    ref_from = ref_back;
  }

pub meaning_kept : (r : ℕ) (new : List ℕ) (rules : List Part) → KeepsMeaning rules (renamed_rules r new rules) (renamed_part r new)
meaning_kept r new rules = record {
  generates = λ k p s. (gen_to r new rules k p s, gen_from r new rules k p s);
  rule_generates = λ k q s. (rule_to r new rules k q s, rule_from r new rules k q s);
  value = λ p n k. (value_to r new rules p n k, value_from r new rules p n k);
  reaches = λ q. reaches (renamed_part r new) (keeps_parts r new) rules q;
}
