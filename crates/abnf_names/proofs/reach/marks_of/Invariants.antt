use Rattle.std.proofs.Common.{◌≡◌, ◌-◌, length}
use Rattle.abnf_names.proofs.SearchLaws.{IsSearched}
use Rattle.abnf_names.proofs.reach.marks_of.Given as goal

abbrev pub invariant-loop-place : goal.invariant-loop-place
invariant-loop-place l = record {
  count : l.found.0 ≡ length l.users;
  searched : IsSearched l.users l.found.1 l.first;
}

abbrev pub decreases-loop-place : goal.decreases-loop-place
decreases-loop-place l = length l.users - l.first
