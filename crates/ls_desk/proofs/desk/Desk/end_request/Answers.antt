use Rattle.ls_desk.proofs.Entries.{cancels}
use Rattle.ls_desk.proofs.desk.Desk.end_request.Goals as goal

pub returns-clause-ok : goal.returns-clause-ok
returns-clause-ok c = cancels _ _ c.args.id.now c.in_ok-found.found c.in_ok-found.ensures.ok
