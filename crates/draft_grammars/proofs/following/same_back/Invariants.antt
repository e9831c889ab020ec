use Rattle.std.proofs.Common.{◌≤◌, ◌-◌, length}
use Rattle.draft_grammars.proofs.following.same_back.Given as goal

abbrev pub invariant-bytes : goal.invariant-bytes
invariant-bytes l = record {
  ours : l.count ≤ length l.ours;
  theirs : l.count ≤ length l.theirs;
}

abbrev pub decreases-bytes : goal.decreases-bytes
decreases-bytes l = length l.ours - l.count
