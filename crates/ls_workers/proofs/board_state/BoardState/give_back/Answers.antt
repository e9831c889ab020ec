use Rattle.std.proofs.Common.{◌∙◌, ℕ, arith, refl, rules, subst, sym}
use Rattle.ls_machine.specs.declared.event.Event.TheVariants.{Returned}
use Rattle.ls_workers.specs.Count.{Counts}
use Rattle.ls_workers.proofs.Entered.{counts_return, limits_stay}
use Rattle.ls_workers.proofs.Placed.{prefix_more, return_refused_at, returned_at}
use Rattle.ls_desk.specs.Faults.{give_back_fault}
use Rattle.ls_workers.specs.Jobs.{IsRefusedAt}
use Rattle.ls_history.specs.declared.history_entry.HistoryEntry.TheVariants.{Worked}
use Rattle.ls_history.proofs.Histories.{hears_keep_worked, sends_keep_worked}
use Rattle.ls_history.proofs.Leads.{done_leads}
use Rattle.ls_history.proofs.Stops.{stop_more}
use Rattle.ls_workers.proofs.board_state.BoardState.give_back.Goals as goal

pub add-requires-clause-leads : goal.add-requires-clause-leads
add-requires-clause-leads g c = λ is.
    let now = c.args.self.now in
    done_leads now.desk c.give_back.new.self now.history (Worked (Returned c.args.ticket)) now.led (c.in_ok-give_back.ensures.ok.enters, refl)

pub one_more-requires-clause-room : goal.one_more-requires-clause-room
one_more-requires-clause-room g c =
    let now = c.args.self.now in
    let counts = counts_return now.books.client.total now.books.took.total now.books.returned.total now.books.finished.total now.books.sent.total c.args.ticket now.desk c.give_back.new.self c.in_ok-give_back.ensures.ok.enters now.counts in
    omega (arith, counts.returned_is, c.add.ensures.desk.small.returned)

pub invariant_of-self-2-clause-counts : goal.invariant_of-self-2-clause-counts
invariant_of-self-2-clause-counts g c =
    let now = c.args.self.now in
    let new = c.give_back.new.self in
    subst (λ (n : ℕ). Counts now.books.client.total now.books.took.total n now.books.finished.total now.books.sent.total new) (sym c.one_more.ensures.total)
    (counts_return now.books.client.total now.books.took.total now.books.returned.total now.books.finished.total now.books.sent.total c.args.ticket now.desk new c.in_ok-give_back.ensures.ok.enters now.counts)

pub invariant_of-self-2-clause-limits : goal.invariant_of-self-2-clause-limits
invariant_of-self-2-clause-limits g c =
    let now = c.args.self.now in
    limits_stay g.C.Crew.max_journal g.C.Crew.max_events now.desk c.give_back.new.self (Returned c.args.ticket) c.in_ok-give_back.ensures.ok.enters now.limits

pub returns : goal.returns
returns g c =
    let now = c.args.self.now in
    let seat = c.args.seat.now in
    let ticket = c.args.ticket in
    let ends = c.seen.ensures ∙ c.add.ensures.added in
    record {
      ok = c.one_more.ensures.amount;
      returned = returned_at ticket seat.front now.history c.seen.result now.desk c.give_back.new.self now.led c.follow.ensures.grows ends c.in_ok-give_back.ensures.ok;
      err = tt;
      same = tt;
      cause = tt;
      follows = prefix_more seat.front now.history c.seen.result (Worked (Returned ticket)) c.follow.ensures.grows ends;
      refused = tt;
      others = (refl, refl);
      kept = (refl, refl);
      ends = (refl, refl);
    }

pub returns-in_err-give_back-clause-cause : goal.returns-in_err-give_back-clause-cause
returns-in_err-give_back-clause-cause g c =
    let now = c.args.self.now in
    let ticket = c.args.ticket in
    let fault = c.in_err-give_back.field-0.0 in
    let cause = return_refused_at ticket fault now.history now.desk c.give_back.new.self now.led c.in_err-give_back.ensures.err in
    let here = subst (IsRefusedAt (λ desk. give_back_fault desk ticket) fault) (sym c.follow.ensures.seen) cause in search rules

pub returns-in_err-give_back-clause-ends : goal.returns-in_err-give_back-clause-ends
returns-in_err-give_back-clause-ends g c = (refl, refl)

pub invariant_of-self-2-clause-hears : goal.invariant_of-self-2-clause-hears
invariant_of-self-2-clause-hears g c =
    let now = c.args.self.now in hears_keep_worked now.books.heard.total now.history c.add.new.self (Returned c.args.ticket) now.hears c.add.ensures.added

pub invariant_of-self-2-clause-leaves : goal.invariant_of-self-2-clause-leaves
invariant_of-self-2-clause-leaves g c =
    let now = c.args.self.now in sends_keep_worked now.books.sent.total now.history c.add.new.self (Returned c.args.ticket) now.leaves c.add.ensures.added

pub invariant_of-self-2-clause-ended : goal.invariant_of-self-2-clause-ended
invariant_of-self-2-clause-ended g c =
    let now = c.args.self.now in now.ended ∙ sym (stop_more now.history c.add.new.self (Worked (Returned c.args.ticket)) c.add.ensures.added)
