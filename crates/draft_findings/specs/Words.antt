-- What is said of a finding in a draft.
use Rattle.std.specs.Prelude.{ℕ, ◌+◌, List, [], ◌++◌, codes}
use Rattle.std.specs.Fmt.{decimal}
use Rattle.draft_findings.specs.declared.report.Remark.{Remark}
use Rattle.draft_findings.specs.declared.report.Remark.TheVariants.{Differs, FirstOf, Plain}

-- what is said of a rule that differs from its definition in this line, which is counted from 0 and printed from 1
abbrev pub differing : List ℕ → ℕ → List ℕ
differing name line = codes "rule " ++ name ++ codes " differs from its definition at line " ++ decimal (line + 1)

-- what is said behind the message of the first of so many faults
abbrev pub first_of_many : ℕ → List ℕ
first_of_many count = codes " (the first of " ++ decimal count ++ codes " faults in this block)"

-- what a remark adds to a message
abbrev pub addition : Remark → List ℕ
addition Plain = []
addition (Differs line) = []
addition (FirstOf count) = first_of_many count
