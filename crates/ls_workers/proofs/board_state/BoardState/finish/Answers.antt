use Rattle.std.proofs.Common.{◌≡◌, ◌∙◌, ◌++◌, ◌∷◌, [], ℕ, Bool, List, ap, arith, refl, rules, subst, sym}
use Rattle.std.specs.Prelude.{is_none}
use Rattle.ls_machine.specs.declared.event.Event.TheVariants.{Finished}
use Rattle.ls_workers.specs.Count.{Counts}
use Rattle.ls_workers.proofs.Entered.{counts_finish, limits_stay}
use Rattle.ls_workers.proofs.Refused.{run_refused}
use Rattle.ls_workers.proofs.Placed.{finished_at, prefix_more, run_refused_at}
use Rattle.ls_desk.specs.Faults.{finish_fault}
use Rattle.ls_workers.specs.Jobs.{IsRefusedAt}
use Rattle.ls_answers.specs.Told.{Told}
use Rattle.ls_history.specs.History.{LeadsOn}
use Rattle.ls_history.specs.declared.history_entry.HistoryEntry.{HistoryEntry}
use Rattle.ls_history.specs.declared.history_entry.HistoryEntry.TheVariants.{Worked}
use Rattle.ls_history.proofs.Histories.{hears_keep_worked, sends_keep_worked}
use Rattle.ls_history.proofs.Leads.{done_leads}
use Rattle.ls_history.proofs.Stops.{stop_more}
use Rattle.ls_workers.proofs.board_state.BoardState.finish.Goals as goal

pub add-requires-clause-leads : goal.add-requires-clause-leads
add-requires-clause-leads g c = λ is.
    let now = c.args.self.now in
    let new = c.finish.new.self in
    let done = c.args.done in
    let leads = done_leads now.desk new now.history (Worked (Finished done.ticket (is_none done.answer))) now.led (c.in_ok-kept.ensures.ok.0.enters, refl) in
    subst (λ (run : ℕ × Bool). LeadsOn now.history (Worked (Finished run.0 run.1)) new) (sym c.run_of-run.ensures) leads

pub one_more-requires-clause-room : goal.one_more-requires-clause-room
one_more-requires-clause-room g c =
    let now = c.args.self.now in
    let done = c.args.done in
    let counts = counts_finish now.books.client.total now.books.took.total now.books.returned.total now.books.finished.total now.books.sent.total done.ticket (is_none done.answer) now.desk c.finish.new.self c.in_ok-kept.ensures.ok.0.enters now.counts in
    omega (arith, counts.finished_is, c.add.ensures.desk.small.finished)

-- the history has the run
added : (log new : List HistoryEntry) (done : Told) (run : ℕ × Bool) → run ≡ (done.ticket, is_none done.answer) → new ≡ log ++ Worked (Finished run.0 run.1) ∷ []
    → new ≡ log ++ Worked (Finished done.ticket (is_none done.answer)) ∷ []
added log new done run is more = more ∙ ap (λ (r : ℕ × Bool). log ++ Worked (Finished r.0 r.1) ∷ []) is

pub invariant_of-self-2-clause-counts : goal.invariant_of-self-2-clause-counts
invariant_of-self-2-clause-counts g c =
    let now = c.args.self.now in
    let new = c.finish.new.self in
    let done = c.args.done in
    subst (λ (n : ℕ). Counts now.books.client.total now.books.took.total now.books.returned.total n now.books.sent.total new) (sym c.one_more.ensures.total)
    (counts_finish now.books.client.total now.books.took.total now.books.returned.total now.books.finished.total now.books.sent.total done.ticket (is_none done.answer) now.desk new c.in_ok-kept.ensures.ok.0.enters now.counts)

pub invariant_of-self-2-clause-limits : goal.invariant_of-self-2-clause-limits
invariant_of-self-2-clause-limits g c =
    let now = c.args.self.now in
    let done = c.args.done in
    limits_stay g.C.Crew.max_journal g.C.Crew.max_events now.desk c.finish.new.self (Finished done.ticket (is_none done.answer)) c.in_ok-kept.ensures.ok.0.enters now.limits

pub returns : goal.returns
returns g c =
    let now = c.args.self.now in
    let seat = c.args.seat.now in
    let done = c.args.done in
    let ends = c.seen.ensures ∙ (added now.history c.add.new.self done c.run_of-run.result c.run_of-run.ensures c.add.ensures.added) in
    let ok = c.in_ok-kept.ensures.ok in
    record {
      ok = c.one_more.ensures.amount;
      finished = finished_at done c.in_ok-kept.kept seat.front now.history c.seen.result now.desk c.finish.new.self now.led c.follow.ensures.grows ends ok.0 ok.1;
      err = tt;
      same = tt;
      cause = tt;
      follows = prefix_more seat.front now.history c.seen.result (Worked (Finished done.ticket (is_none done.answer))) c.follow.ensures.grows ends;
      refused = tt;
      others = (refl, refl);
      kept = (refl, refl);
      ends = (refl, refl);
    }

pub returns-in_err-kept-clause-cause : goal.returns-in_err-kept-clause-cause
returns-in_err-kept-clause-cause g c =
    let now = c.args.self.now in
    let done = c.args.done in
    let fault = c.in_err-kept.field-0.0.0 in
    let cause = run_refused_at done fault now.history now.desk c.finish.new.self now.led c.in_err-kept.ensures.err.0 in
    let here = subst (IsRefusedAt (λ desk. finish_fault desk done) fault) (sym c.follow.ensures.seen) cause in search rules

pub returns-in_err-kept-clause-refused : goal.returns-in_err-kept-clause-refused
returns-in_err-kept-clause-refused g c =
    let refused = run_refused c.args.self.now.desk c.finish.new.self c.args.done c.in_err-kept.field-0.0.0 c.in_err-kept.ensures.err.0 in search rules

pub returns-in_err-kept-clause-ends : goal.returns-in_err-kept-clause-ends
returns-in_err-kept-clause-ends g c = (refl, refl)

pub invariant_of-self-2-clause-hears : goal.invariant_of-self-2-clause-hears
invariant_of-self-2-clause-hears g c =
    let now = c.args.self.now in
    let done = c.args.done in hears_keep_worked now.books.heard.total now.history c.add.new.self (Finished done.ticket (is_none done.answer)) now.hears (added now.history c.add.new.self done c.run_of-run.result c.run_of-run.ensures c.add.ensures.added)

pub invariant_of-self-2-clause-leaves : goal.invariant_of-self-2-clause-leaves
invariant_of-self-2-clause-leaves g c =
    let now = c.args.self.now in
    let done = c.args.done in sends_keep_worked now.books.sent.total now.history c.add.new.self (Finished done.ticket (is_none done.answer)) now.leaves (added now.history c.add.new.self done c.run_of-run.result c.run_of-run.ensures c.add.ensures.added)

pub invariant_of-self-2-clause-ended : goal.invariant_of-self-2-clause-ended
invariant_of-self-2-clause-ended g c =
    let now = c.args.self.now in
    let done = c.args.done in now.ended ∙ sym (stop_more now.history c.add.new.self (Worked (Finished done.ticket (is_none done.answer))) (added now.history c.add.new.self done c.run_of-run.result c.run_of-run.ensures c.add.ensures.added))
