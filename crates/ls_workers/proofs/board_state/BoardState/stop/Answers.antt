use Rattle.std.proofs.Common.{◌∙◌, Option, ap, refl, sym}
use Rattle.ls_history.specs.declared.history_entry.HistoryEntry.TheVariants.{Stopped}
use Rattle.ls_history.specs.declared.history_entry.Stop.{Stop}
use Rattle.ls_history.specs.Ends.{ended_by}
use Rattle.ls_history.proofs.Histories.{hears_keep_stopped, sends_keep_stopped}
use Rattle.ls_history.proofs.Leads.{done_leads}
use Rattle.ls_history.proofs.Stops.{stop_more}
use Rattle.ls_workers.proofs.board_state.BoardState.stop.Goals as goal

pub add-requires-clause-leads : goal.add-requires-clause-leads
add-requires-clause-leads g c = λ is.
    let now = c.args.self.now in done_leads now.desk now.desk now.history (Stopped c.args.stop) now.led refl

pub invariant_of-self-clause-hears : goal.invariant_of-self-clause-hears
invariant_of-self-clause-hears g c =
    let now = c.args.self.now in hears_keep_stopped now.books.heard.total now.history c.add.new.self c.args.stop now.hears c.add.ensures.added

pub invariant_of-self-clause-leaves : goal.invariant_of-self-clause-leaves
invariant_of-self-clause-leaves g c =
    let now = c.args.self.now in sends_keep_stopped now.books.sent.total now.history c.add.new.self c.args.stop now.leaves c.add.ensures.added

pub invariant_of-self-clause-ended : goal.invariant_of-self-clause-ended
invariant_of-self-clause-ended g c =
    let now = c.args.self.now in
    c.ended_by-self.ensures ∙ (ap (λ (before : Option Stop). ended_by before c.args.stop) now.ended ∙ sym (stop_more now.history c.add.new.self (Stopped c.args.stop) c.add.ensures.added))
