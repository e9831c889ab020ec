-- What of a grammar's findings is reported in its draft. A definition that says the same as the first isn't, and one that says something
-- else is with the line of the first. Where a block is no ABNF at all, each of its lines may be a fault of syntax: of many the first is
-- reported, for all of them.
use Rattle.std.specs.Prelude.{ℕ, Bool, true, false, nat_lt, List, [], ◌∷◌, ◌++◌, Option, Some, None, count_by, drop, find, map, take, if◌then◌else◌}
use Rattle.std.specs.List.{prefix_len}
use Rattle.abnf_lint.specs.declared.finding.Code.{Code}
use Rattle.abnf_lint.specs.declared.finding.Code.TheVariants.{NumberTooLarge, Syntax, TooDeep}
use Rattle.abnf_lint.specs.declared.finding.Finding.{Finding}
use Rattle.joined_grammars.specs.declared.repeats.Repeat.{Repeat}
use Rattle.draft_findings.specs.declared.report.Remark.{Remark}
use Rattle.draft_findings.specs.declared.report.Remark.TheVariants.{Differs, FirstOf, Plain}
use Rattle.draft_findings.specs.Copies.{original_of, without_copies}

-- a finding, and what is said of it in a draft beside its message
pub record Remarked : Type 0 where
  pub finding : Finding
  pub remark : Remark

-- what is said of a definition that may differ from the first, in a line of the grammar's text
abbrev pub remark_of : Option ℕ → Remark
remark_of None = Plain
remark_of (Some line) = Differs line

-- a finding, with its line of the first definition where it differs from that
abbrev pub remarked : List Repeat → Finding → Remarked
remarked repeats finding = record { finding = finding; remark = remark_of (original_of repeats finding) }

-- ---- floods

-- the code of a fault that makes a block no rule
abbrev pub is_fault_of_syntax : Code → Bool
is_fault_of_syntax (Syntax fault) = true
is_fault_of_syntax NumberTooLarge = true
is_fault_of_syntax TooDeep = true
is_fault_of_syntax _ = false

-- the finding is such a fault
abbrev pub is_fault : Remarked → Bool
is_fault r = is_fault_of_syntax r.finding.code

-- the first of so many faults, and nothing else
abbrev pub alone : ℕ → Option Remarked → List Remarked
alone count None = []
alone count (Some r) = record { finding = r.finding; remark = FirstOf count } ∷ []

-- what is reported of a draft's block: of more than ten faults of syntax the first alone, with their number, else all
abbrev pub of_block : List Remarked → List Remarked
of_block rs = if nat_lt 10 (count_by is_fault rs) then alone (count_by is_fault rs) (find is_fault rs) else rs

-- it stands in front of a line
abbrev pub is_in_front : ℕ → Remarked → Bool
is_in_front end r = nat_lt r.finding.place.line end

-- what is reported of findings in blocks that end at these lines, each the first line behind its block: what each block has up to
-- there, and behind the last one all
abbrev pub cut_at : List ℕ → List Remarked → List Remarked
cut_at [] rs = rs
cut_at (end ∷ ends) rs =
    let n = prefix_len (is_in_front end) rs in
    of_block (take n rs) ++ cut_at ends (drop n rs)

-- what is reported in a draft, where these definitions repeat others and its blocks end at these lines of the grammar's text
abbrev pub reported : List Repeat → List ℕ → List Finding → List Remarked
reported repeats ends found = cut_at ends (map (remarked repeats) (without_copies repeats found))
