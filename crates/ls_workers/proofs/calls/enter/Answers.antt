use Rattle.ls_history.proofs.Leads.{reply_done}
use Rattle.ls_workers.proofs.calls.enter.Goals as goal

pub returns-clause-done : goal.returns-clause-done
returns-clause-done c = reply_done c.args.event c.enter.result c.args.desk.now c.enter.new.self c.enter.ensures.ok c.enter.ensures.err
