use Rattle.std.proofs.Common.{◌≡◌, take}
use Rattle.ls_machine.proofs.client.copy_of.Given as goal

abbrev pub invariant-loop-edit : goal.invariant-loop-edit
invariant-loop-edit l = l.copy ≡ take l.edit-index l.edit-items
