use Rattle.std.proofs.Common.{rules}
use Rattle.ls_history.proofs.book.Front.is_within.Goals as goal

pub returns : goal.returns
returns = search rules depth 3
