use Rattle.std.proofs.Common.{rules}
use Rattle.ls_workers.proofs.board_state.BoardState.is_first.Goals as goal

pub returns : goal.returns
returns = search rules depth 3
