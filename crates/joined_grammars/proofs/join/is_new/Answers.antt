use Rattle.std.proofs.Common.{rules}
use Rattle.joined_grammars.proofs.join.is_new.Goals as goal

pub returns-in-Some : goal.returns-in-Some
returns-in-Some = search rules depth 3
