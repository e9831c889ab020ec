-- The order of findings: by line, by start, and by the row of the table.
use Rattle.std.specs.Prelude.{◌≡◌, ℕ, Bool, true, List, [], ◌∷◌}
use Rattle.std.specs.declared.cmp.Ordering.{Ordering}
use Rattle.std.specs.Ordering.{is_lt, nat_cmp, ordering_then}
use Rattle.std.specs.List.{AllByRecursion}
use Rattle.abnf_lint.specs.declared.finding.Code.{Code}
use Rattle.abnf_lint.specs.declared.finding.Code.TheVariants as c
use Rattle.abnf_lint.specs.declared.finding.Finding.{Finding}

-- the row of a code in the table, from 1
abbrev pub code_row : Code → ℕ
code_row (c.Syntax fault) = 1
code_row c.NumberTooLarge = 2
code_row c.TooDeep = 3
code_row c.Undefined = 4
code_row c.Duplicate = 5
code_row c.NoBase = 6
code_row c.EmptyRepeat = 7
code_row c.EmptyRange = 8
code_row c.Unproductive = 9

-- a line, a start and a row
abbrev pub Key : Type 0
Key = ℕ × ℕ × ℕ

-- the line of a finding, where it begins there in bytes, and the row of its code
abbrev pub key : Finding → Key
key f = (f.place.line, f.place.start, code_row f.code)

-- keys are ordered by line, then by start, then by row
abbrev pub key_cmp : Key → Key → Ordering
key_cmp a b = ordering_then (ordering_then (nat_cmp a.0 b.0) (nat_cmp a.1 b.1)) (nat_cmp a.2 b.2)

-- the one stands before the other by line, start and row
abbrev pub finding_before : Finding → Finding → Bool
finding_before f g = is_lt (key_cmp (key f) (key g))

-- each finding comes before all that follow it, by line, start and row: no two share all three
abbrev pub FindingsAscend : List Finding → Type 0
FindingsAscend [] = Unit {0}
FindingsAscend (f ∷ fs) = AllByRecursion (λ g. finding_before f g ≡ true) fs × FindingsAscend fs
