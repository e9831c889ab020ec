use Rattle.ls_desk.proofs.Entries.{asks}
use Rattle.ls_desk.proofs.desk.Desk.ask.Goals as goal

pub returns-clause-ok : goal.returns-clause-ok
returns-clause-ok c = asks _ _ c.args.id c.args.uri c.args.question c.args.links c.in_ok-ticket.ticket c.in_ok-ticket.ensures.ok
