-- Findings in none of a part's lines.
use Rattle.std.specs.Prelude.{ℕ, ◌+◌, ◌-◌, ◌^◌, ◌<◌, ◌≤◌, ◌⊎◌, List, All}
use Rattle.abnf_syntax.specs.declared.fault.SyntaxFault.{SyntaxFault}
use Rattle.abnf_syntax.specs.declared.fault.SyntaxFault.TheVariants as f
use Rattle.abnf_lint.specs.declared.finding.Code.{Code}
use Rattle.abnf_lint.specs.declared.finding.Code.TheVariants as c
use Rattle.abnf_lint.specs.declared.finding.Finding.{Finding}
use Rattle.incremental_findings.specs.declared.difference.Difference.{Difference}

-- The line is before the part, or behind it; there it has a number where it comes to.
abbrev pub IsOutside : Difference → ℕ → Type 0
IsOutside part line = (line < part.front) ⊎ ((part.old ≤ line) × ((line - part.old) + part.new < 2 ^ 64))

-- the same of the place of a fault
abbrev pub IsFaultOutside : Difference → SyntaxFault → Type 0
IsFaultOutside part (f.NoName p) = IsOutside part p.line
IsFaultOutside part (f.NoDefinedAs p) = IsOutside part p.line
IsFaultOutside part (f.BadToken p) = IsOutside part p.line
IsFaultOutside part (f.ElementExpected p) = IsOutside part p.line
IsFaultOutside part (f.BlankExpected p) = IsOutside part p.line
IsFaultOutside part (f.Unclosed p) = IsOutside part p.line
IsFaultOutside part (f.NumberTooLarge p) = IsOutside part p.line
IsFaultOutside part (f.TooDeep p) = IsOutside part p.line
IsFaultOutside part f.Memory = Unit {0}

-- the same of a code's fault
abbrev pub IsCodeOutside : Difference → Code → Type 0
IsCodeOutside part (c.Syntax fault) = IsFaultOutside part fault
IsCodeOutside part code = Unit {0}

-- the same of the place of a finding, and of its code
abbrev pub IsFoundOutside : Difference → Finding → Type 0
IsFoundOutside part found = IsOutside part found.place.line × IsCodeOutside part found.code

-- the same of each finding
abbrev pub AreFoundOutside : Difference → List Finding → Type 0
AreFoundOutside part rows = All (IsFoundOutside part) rows
