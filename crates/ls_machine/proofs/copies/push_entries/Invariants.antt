use Rattle.std.proofs.Common.{◌≡◌, ◌++◌, map, take}
use Rattle.ls_machine.specs.Outs.{entry_for}
use Rattle.ls_machine.proofs.copies.push_entries.Given as goal

abbrev pub invariant-loop-out : goal.invariant-loop-out
invariant-loop-out l = l.entries ≡ l.initial.entries ++ map entry_for (take l.out-index l.outs)
