use Rattle.ls_machine.proofs.Ordered.{ordered}
use Rattle.ls_machine.proofs.laws.legal_journals_are_ordered.Goals as goal

pub returns : goal.returns
returns c = λ most journal legal. ordered most journal legal
