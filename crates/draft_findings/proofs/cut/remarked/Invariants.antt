use Rattle.std.proofs.Common.{◌≡◌, ◌++◌, drop, map}
use Rattle.draft_findings.specs.Copies.{without_copies}
use Rattle.draft_findings.specs.Reports as spec
use Rattle.draft_findings.proofs.cut.remarked.Given as goal

abbrev pub invariant-loop-finding : goal.invariant-loop-finding
invariant-loop-finding l =
    l.kept ++ map (spec.remarked l.repeats) (without_copies l.repeats (drop l.finding-index l.found)) ≡ map (spec.remarked l.repeats) (without_copies l.repeats l.found)
