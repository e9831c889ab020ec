use Rattle.std.proofs.Common.{◌≡◌, take}
use Rattle.ls_machine.specs.Machine.{requests}
use Rattle.ls_machine.proofs.find.requests.Given as goal

abbrev pub invariant-loop-job : goal.invariant-loop-job
invariant-loop-job l = l.count ≡ requests (take l.job-index l.waiting)
