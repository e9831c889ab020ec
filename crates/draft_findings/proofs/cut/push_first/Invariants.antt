use Rattle.std.proofs.Common.{◌≡◌, drop}
use Rattle.std.specs.Prelude.{find}
use Rattle.draft_findings.specs.Reports.{is_fault}
use Rattle.draft_findings.proofs.cut.push_first.Given as goal

abbrev pub invariant-loop-reported : goal.invariant-loop-reported
invariant-loop-reported l = record {
  found : find is_fault (drop l.reported-index l.block) ≡ find is_fault l.block;
  kept : l.kept ≡ l.initial.kept;
}
