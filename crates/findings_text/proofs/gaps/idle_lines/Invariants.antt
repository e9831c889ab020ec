use Rattle.std.proofs.Common.{◌≡◌, take}
use Rattle.findings_text.specs.Gaps as spec
use Rattle.findings_text.proofs.gaps.idle_lines.Given as goal

abbrev pub invariant-loop-finding : goal.invariant-loop-finding
invariant-loop-finding l = l.lines ≡ spec.idle_lines (take l.finding-index l.found)
