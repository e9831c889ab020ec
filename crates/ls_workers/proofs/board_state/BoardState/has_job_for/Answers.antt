use Rattle.std.proofs.Common.{rules}
use Rattle.ls_workers.proofs.board_state.BoardState.has_job_for.Goals as goal

pub returns-then-has_queued : goal.returns-then-has_queued
returns-then-has_queued = search rules depth 3

pub returns-else-has_queued : goal.returns-else-has_queued
returns-else-has_queued = search rules depth 3
