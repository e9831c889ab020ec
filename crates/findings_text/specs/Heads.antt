-- The heads of a text: of each rule the first place that defines it.
use Rattle.std.specs.Prelude.{ℕ, Bool, false, not, List, [], ◌∷◌, Option, Some, None, filter, if◌then◌else◌, nat_eq}
use Rattle.std.specs.Option.{option_map_or}
use Rattle.abnf_token.specs.Folded.{lowercase}
use Rattle.abnf_parts.specs.Names.{Name, rule_number}
use Rattle.abnf_names.specs.Places.{Named}

-- the number of the rule that a place defines, if it defines one
abbrev pub defined_at : List Name → Named → Option ℕ
defined_at names n = if n.defines then rule_number names (lowercase n.text) else None

-- the place defines rule r
abbrev pub defines_rule : List Name → ℕ → Named → Bool
defines_rule names r n = option_map_or (nat_eq r) (defined_at names n) false

-- a place that defines this rule, ahead of the heads of other rules
abbrev pub ahead : Named → Option ℕ → List (Named × ℕ) → List (Named × ℕ)
ahead n None heads = heads
ahead n (Some r) heads = (n, r) ∷ filter (λ head. not (nat_eq r head.1)) heads

-- the heads among these places: of each rule the first that defines it, with the rule's number, in the order of the places; a
-- rule that none of them defines has none (`heads_are_first`)
abbrev pub heads : List Name → List Named → List (Named × ℕ)
heads names [] = []
heads names (n ∷ ns) = ahead n (defined_at names n) (heads names ns)
