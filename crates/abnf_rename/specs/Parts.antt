-- A rename of the trees of rules (RFC 5234, section 2).
use Rattle.std.specs.Prelude.{ℕ, ◌↔◌, Option, Some, None, List, map, if◌then◌else◌, nat_eq}
use Rattle.abnf_parts.specs.Part.{Part, Parts, quoted, series, span, seq, alt, rep, ref, opaque, end, next}
use Rattle.abnf_parts.specs.Generates.{Gen, RuleGen, IsLeastPair}
use Rattle.abnf_parts.specs.Reach.{ReachesOpaque}

-- The name of a reference to that rule is the new one. It goes by the rule's number and not by the name, since a core rule may use a
-- core rule of that name, which keeps it.
abbrev pub renamed_name : ℕ → List ℕ → List ℕ → Option ℕ → List ℕ
renamed_name r new name None = name
renamed_name r new name (Some q) = if nat_eq q r then new else name

-- A tree, and trees side by side, in which each reference to the rule with this number has the new name, and nothing else is
-- changed.
abbrev mutual
  pub renamed_part : ℕ → List ℕ → Part → Part
  renamed_part r new (quoted text exact) = quoted text exact
  renamed_part r new (series characters) = series characters
  renamed_part r new (span low high) = span low high
  renamed_part r new (seq ps) = seq (renamed_parts r new ps)
  renamed_part r new (alt ps) = alt (renamed_parts r new ps)
  renamed_part r new (rep least most p) = rep least most (renamed_part r new p)
  renamed_part r new (ref name rule) = ref (renamed_name r new name rule) rule
  renamed_part r new opaque = opaque

  pub renamed_parts : ℕ → List ℕ → Parts → Parts
  renamed_parts r new end = end
  renamed_parts r new (next p ps) = next (renamed_part r new p) (renamed_parts r new ps)

-- the trees of all rules, in which each reference to the rule with this number has the new name
abbrev pub renamed_rules : ℕ → List ℕ → List Part → List Part
renamed_rules r new rules = map (renamed_part r new) rules

-- Trees that are the same but for a name: each part generates the same strings in both, with as many nested references, and
-- has the same least pair of a length and a number of nested references, and the same rules lead to an opaque part.
pub record KeepsMeaning (rules others : List Part) (of_part : Part → Part) : Type 0 where
  pub generates : (k : ℕ) (p : Part) (s : List ℕ) → Gen rules k p s ↔ Gen others k (of_part p) s
  pub rule_generates : (k r : ℕ) (s : List ℕ) → RuleGen rules k r s ↔ RuleGen others k r s
  pub value : (p : Part) (n k : ℕ) → IsLeastPair rules p n k ↔ IsLeastPair others (of_part p) n k
  pub reaches : (r : ℕ) → ReachesOpaque rules r ↔ ReachesOpaque others r
