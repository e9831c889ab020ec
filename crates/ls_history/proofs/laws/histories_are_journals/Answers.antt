use Rattle.ls_history.proofs.Journals.{histories_journals}
use Rattle.ls_history.proofs.laws.histories_are_journals.Goals as goal

pub returns : goal.returns
returns c = histories_journals
