-- Repeats and ranges for which nothing stands.
use Rattle.std.specs.Prelude.{ℕ, Bool, false, nat_lt, List, Option}
use Rattle.std.specs.Option.{option_map_or}
use Rattle.abnf_token.specs.declared.token.Kind.{Kind}
use Rattle.abnf_token.specs.declared.token.Kind.TheVariants.{Repeat, Number}
use Rattle.abnf_parts.specs.Leaf.{repeat_limits, ends_of, number_part}

-- the minimum is above the maximum
abbrev pub is_above : ℕ → Option ℕ → Bool
is_above least most = option_map_or (λ m. nat_lt m least) most false

-- the low end of a range is above its high end
abbrev pub is_turned : Option (ℕ × ℕ) → Bool
is_turned ends = option_map_or (λ e. nat_lt e.1 e.0) ends false

-- a repeat with its minimum above its maximum, or a range turned round
abbrev pub is_empty_number : Kind → List ℕ → Bool
is_empty_number Repeat text = let limits = repeat_limits text in is_above limits.0 limits.1
is_empty_number Number text = is_turned (ends_of (number_part text))
is_empty_number _ text = false
