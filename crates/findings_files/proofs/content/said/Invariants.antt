use Rattle.std.proofs.Common.{take}
use Rattle.findings_files.specs.Contents.{AreRemarked}
use Rattle.findings_files.proofs.content.said.Given as goal

abbrev pub invariant-loop-aside : goal.invariant-loop-aside
invariant-loop-aside l = AreRemarked (take l.aside-index l.asides) l.said
