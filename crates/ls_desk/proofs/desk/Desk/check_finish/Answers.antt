use Rattle.std.proofs.Common.{rules}
use Rattle.ls_desk.proofs.desk.Desk.check_finish.Goals as goal

pub returns-then-not-is_for-clause-err : goal.returns-then-not-is_for-clause-err
returns-then-not-is_for-clause-err = search rules depth 3
