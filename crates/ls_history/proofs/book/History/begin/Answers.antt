use Rattle.ls_history.proofs.Leads.{begins_leads}
use Rattle.ls_history.proofs.book.History.begin.Goals as goal

pub add-requires-clause-leads : goal.add-requires-clause-leads
add-requires-clause-leads g c = begins_leads c.args.desk.now c.args.self.now c.requires.none c.requires.journal
