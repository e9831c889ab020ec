use Rattle.std.proofs.Common.{◌≡◌, take}
use Rattle.std.specs.Prelude.{string_bytes}
use Rattle.findings_text.specs.Gaps as spec
use Rattle.findings_text.proofs.gaps.fillings.Given as goal

abbrev pub invariant-loop-finding : goal.invariant-loop-finding
invariant-loop-finding l = string_bytes l.lines ≡ spec.fillings l.told (take l.finding-index l.found)
