use Rattle.std.proofs.Common.{◌≡◌, take}
use Rattle.ls_machine.proofs.entries.same_edits.Given as goal

abbrev pub invariant-loop-at : goal.invariant-loop-at
invariant-loop-at l = take l.at l.a ≡ take l.at l.b
