use Rattle.std.proofs.Common.{◌≡◌, ◌++◌, drop}
use Rattle.draft_findings.proofs.cut.push_all.Given as goal

abbrev pub invariant-loop-reported : goal.invariant-loop-reported
invariant-loop-reported l = l.kept ++ drop l.reported-index l.block ≡ l.initial.kept ++ l.block
