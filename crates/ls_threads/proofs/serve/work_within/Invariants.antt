use Rattle.std.specs.Prelude.{◌+◌, ◌≤◌, vec_capacity, vec_len}
use Rattle.ls_threads.proofs.serve.work_within.Given as goal

-- there is room for the handles and for the seats that come back
abbrev pub invariant-seats : goal.invariant-seats
invariant-seats g l = record {
  handles : vec_len l.handles + vec_len l.seats ≤ vec_capacity l.handles;
  workers : vec_len l.workers + vec_len l.handles + vec_len l.seats ≤ vec_capacity l.workers;
}

abbrev pub decreases-seats : goal.decreases-seats
decreases-seats g l = goal.left-seats g l

abbrev pub invariant-handles : goal.invariant-handles
invariant-handles g l = vec_len l.workers + vec_len l.handles ≤ vec_capacity l.workers

abbrev pub decreases-handles : goal.decreases-handles
decreases-handles g l = goal.left-handles g l
