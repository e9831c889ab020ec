use Rattle.ls_history.proofs.Leads.{histories_begin, histories_go_on}
use Rattle.ls_history.proofs.laws.desks_have_histories.Goals as goal

pub returns-clause-begin : goal.returns-clause-begin
returns-clause-begin c = histories_begin

pub returns-clause-more : goal.returns-clause-more
returns-clause-more c = histories_go_on
