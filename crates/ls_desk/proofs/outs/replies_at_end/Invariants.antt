use Rattle.std.proofs.Common.{◌≡◌, take}
use Rattle.std.specs.Prelude.{count_by}
use Rattle.ls_desk.proofs.Told.{is_told}
use Rattle.ls_desk.proofs.outs.replies_at_end.Given as goal

abbrev pub invariant-loop-job : goal.invariant-loop-job
invariant-loop-job l = l.count ≡ count_by (is_told l.uri) (take l.job-index l.waiting)
