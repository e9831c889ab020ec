-- What becomes of a finding where a draft repeats definitions. Standards often collect their grammar once more in an appendix: a
-- definition there that says the same as the first is no error, and one that says something else is one.
use Rattle.std.specs.Prelude.{ℕ, Bool, true, false, not, List, Option, None, filter, if◌then◌else◌}
use Rattle.std.specs.Option.{option_map, option_map_or}
use Rattle.abnf_lint.specs.declared.finding.Code.{Code}
use Rattle.abnf_lint.specs.declared.finding.Code.TheVariants.{Duplicate}
use Rattle.abnf_lint.specs.declared.finding.Finding.{Finding}
use Rattle.joined_grammars.specs.declared.repeats.Repeat.{Repeat}
pub use Rattle.joined_grammars.specs.Repeats.{repeat_at}

-- the code of a second or later definition of a name
abbrev pub is_duplicate : Code → Bool
is_duplicate Duplicate = true
is_duplicate _ = false

-- the definition of a finding that says that its name is defined before, where it repeats one in a draft
abbrev pub repeat_in_draft : List Repeat → Finding → Option Repeat
repeat_in_draft repeats finding = if is_duplicate finding.code then repeat_at repeats finding.place.line else None

-- the definition of the finding says the same as the first
abbrev pub is_copy : List Repeat → Finding → Bool
is_copy repeats finding = option_map_or (λ r. r.is_same) (repeat_in_draft repeats finding) false

-- the findings but for those of copies
abbrev pub without_copies : List Repeat → List Finding → List Finding
without_copies repeats found = filter (λ finding. not (is_copy repeats finding)) found

-- the line in the grammar's text of the first definition, of which the finding's definition differs, if it does
abbrev pub original_of : List Repeat → Finding → Option ℕ
original_of repeats finding = option_map (λ r. r.original) (repeat_in_draft repeats finding)
