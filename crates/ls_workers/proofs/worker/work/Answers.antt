use Rattle.std.proofs.Common.{rules}
use Rattle.ls_workers.proofs.worker.work.Goals as goal

pub returns-in-Ok-None-clause-seat : goal.returns-in-Ok-None-clause-seat
returns-in-Ok-None-clause-seat = search rules depth 3
