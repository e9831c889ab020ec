use Rattle.std.proofs.Common.{rules}
use Rattle.ls_desk.proofs.present.Present.give_back.Goals as goal

pub returns-clause-waiting : goal.returns-clause-waiting
returns-clause-waiting = search rules depth 3
