use Rattle.std.proofs.Common.{◌≡◌, ◌++◌, ◌≤◌, drop, length}
use Rattle.draft_findings.specs.Reports as spec
use Rattle.draft_findings.proofs.cut.cut.Given as goal

abbrev pub invariant-loop-end : goal.invariant-loop-end
invariant-loop-end l = record {
  within : l.at ≤ length l.all;
  told : l.kept ++ spec.cut_at (drop l.end-index l.ends) (drop l.at l.all) ≡ spec.cut_at l.ends l.all;
}
