-- The order of candidates.
use Rattle.std.specs.Ordering.{nat_cmp, ordering_then}
use Rattle.std.specs.declared.cmp.Ordering.{Ordering}
use Rattle.abnf_least.specs.declared.candidate.Candidate.{Candidate}

-- candidates are ordered by length, then by height, then by number
abbrev pub candidate_cmp : Candidate → Candidate → Ordering
candidate_cmp x y = ordering_then (nat_cmp x.length y.length) (ordering_then (nat_cmp x.height y.height) (nat_cmp x.number y.number))
