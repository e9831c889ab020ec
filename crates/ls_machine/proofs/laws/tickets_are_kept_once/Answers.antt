use Rattle.ls_machine.proofs.Once.{requests_once, tickets_once}
use Rattle.ls_machine.proofs.laws.tickets_are_kept_once.Goals as goal

pub returns-clause-tickets : goal.returns-clause-tickets
returns-clause-tickets c = tickets_once

pub returns-clause-requests : goal.returns-clause-requests
returns-clause-requests c = requests_once
