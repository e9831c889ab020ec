use Rattle.std.proofs.Common.{◌≡◌, take}
use Rattle.ls_machine.proofs.copies.waiting_copy.Given as goal

abbrev pub invariant-loop-job : goal.invariant-loop-job
invariant-loop-job l = l.copy ≡ take l.job-index l.waiting
