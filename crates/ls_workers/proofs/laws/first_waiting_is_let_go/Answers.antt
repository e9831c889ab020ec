use Rattle.ls_workers.proofs.FirstWaiting.{first_has_it, first_alone_has_it}
use Rattle.ls_workers.proofs.laws.first_waiting_is_let_go.Goals as goal

pub returns-clause-first : goal.returns-clause-first
returns-clause-first c = first_has_it

pub returns-clause-alone : goal.returns-clause-alone
returns-clause-alone c = first_alone_has_it
