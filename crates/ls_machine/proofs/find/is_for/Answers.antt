use Rattle.std.proofs.Common.{rules}
use Rattle.ls_machine.proofs.find.is_for.Goals as goal

pub returns-then-same_text : goal.returns-then-same_text
returns-then-same_text = search rules depth 3
