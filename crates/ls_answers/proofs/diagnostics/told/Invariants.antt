use Rattle.std.proofs.Common.{◌≡◌, map, take}
use Rattle.ls_answers.specs.Diagnostics.{diagnostic_of}
use Rattle.ls_answers.proofs.diagnostics.told.Given as goal

abbrev pub invariant-loop-finding : goal.invariant-loop-finding
invariant-loop-finding l = record {
  text : l.ruler ≡ record { text = l.snapshot; encoding = l.fn.encoding };
  told : l.diagnostics ≡ map (diagnostic_of l.fn.encoding l.snapshot) (take l.finding-index l.found);
}
