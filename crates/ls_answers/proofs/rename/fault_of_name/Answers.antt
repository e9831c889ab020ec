use Rattle.std.proofs.Common.{rules}
use Rattle.ls_answers.proofs.rename.fault_of_name.Goals as goal

pub returns-then-is_in_use : goal.returns-then-is_in_use
returns-then-is_in_use c = search rules depth 2 steps 500000

pub returns : goal.returns
returns c = search rules depth 2 steps 500000
