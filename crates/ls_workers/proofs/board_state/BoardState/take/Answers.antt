use Rattle.std.proofs.Common.{◌≡◌, ◌∙◌, ℕ, Option, Some, arith, refl, rules, subst, sym}
use Rattle.ls_answers.specs.declared.job.Job.{Job}
use Rattle.ls_machine.specs.declared.event.Event.TheVariants.{Took}
use Rattle.ls_desk.specs.Faults.{Takes, take_fault}
use Rattle.ls_desk.specs.Stands.{Enters, Seen}
use Rattle.ls_workers.specs.Count.{Counts}
use Rattle.ls_workers.proofs.Entered.{counts_take, limits_stay}
use Rattle.ls_workers.proofs.Placed.{prefix_more, take_refused_at, taken_at}
use Rattle.ls_workers.specs.Jobs.{IsRefusedAt}
use Rattle.ls_history.specs.declared.history_entry.HistoryEntry.TheVariants.{Worked}
use Rattle.ls_history.proofs.Histories.{hears_keep_worked, sends_keep_worked}
use Rattle.ls_history.proofs.Leads.{done_leads}
use Rattle.ls_history.proofs.Stops.{stop_more}
use Rattle.ls_workers.proofs.board_state.BoardState.take.Goals as goal

-- a job that is taken enters its event
taken : (worker : ℕ) (old new : Seen) (o : Option Job) (job : Job) → o ≡ Some job → Takes worker old new o → Enters old new (Took worker)
taken worker old new o job is takes = (subst (λ (p : Option Job). Takes worker old new p) is takes).3.enters

pub add-requires-clause-leads : goal.add-requires-clause-leads
add-requires-clause-leads g c = λ is.
    let now = c.args.self.now in
    let event = Took c.args.seat.now.number in
    let enters = taken c.args.seat.now.number now.desk c.take.new.self c.in_ok-job.field-0 c.in-Some.job c.in-Some.is c.in_ok-job.ensures.ok in
    done_leads now.desk c.take.new.self now.history (Worked event) now.led (enters, refl)

pub one_more-requires-clause-room : goal.one_more-requires-clause-room
one_more-requires-clause-room g c =
    let now = c.args.self.now in
    let new = c.take.new.self in
    let enters = taken c.args.seat.now.number now.desk new c.in_ok-job.field-0 c.in-Some.job c.in-Some.is c.in_ok-job.ensures.ok in
    let counts = counts_take now.books.client.total now.books.took.total now.books.returned.total now.books.finished.total now.books.sent.total c.args.seat.now.number now.desk new enters now.counts in
    omega (arith, counts.took_is, c.add.ensures.desk.small.took)

pub invariant_of-self-2-clause-counts : goal.invariant_of-self-2-clause-counts
invariant_of-self-2-clause-counts g c =
    let now = c.args.self.now in
    let new = c.take.new.self in
    let worker = c.args.seat.now.number in
    let enters = taken worker now.desk new c.in_ok-job.field-0 c.in-Some.job c.in-Some.is c.in_ok-job.ensures.ok in
    subst (λ (n : ℕ). Counts now.books.client.total n now.books.returned.total now.books.finished.total now.books.sent.total new) (sym c.one_more.ensures.total)
    (counts_take now.books.client.total now.books.took.total now.books.returned.total now.books.finished.total now.books.sent.total worker now.desk new enters now.counts)

pub invariant_of-self-2-clause-limits : goal.invariant_of-self-2-clause-limits
invariant_of-self-2-clause-limits g c =
    let now = c.args.self.now in
    let new = c.take.new.self in
    let worker = c.args.seat.now.number in
    limits_stay g.C.Crew.max_journal g.C.Crew.max_events now.desk new (Took worker)
    (taken worker now.desk new c.in_ok-job.field-0 c.in-Some.job c.in-Some.is c.in_ok-job.ensures.ok) now.limits

pub returns-in_err-job-clause-ends : goal.returns-in_err-job-clause-ends
returns-in_err-job-clause-ends g c = (refl, refl)

pub invariant_of-self-2-clause-hears : goal.invariant_of-self-2-clause-hears
invariant_of-self-2-clause-hears g c =
    let now = c.args.self.now in
    let added = c.add.ensures.added in
    hears_keep_worked now.books.heard.total now.history c.add.new.self (Took c.args.seat.now.number) now.hears added

pub invariant_of-self-2-clause-leaves : goal.invariant_of-self-2-clause-leaves
invariant_of-self-2-clause-leaves g c =
    let now = c.args.self.now in
    let added = c.add.ensures.added in
    sends_keep_worked now.books.sent.total now.history c.add.new.self (Took c.args.seat.now.number) now.leaves added

pub invariant_of-self-2-clause-ended : goal.invariant_of-self-2-clause-ended
invariant_of-self-2-clause-ended g c =
    let now = c.args.self.now in
    let added = c.add.ensures.added in
    now.ended ∙ sym (stop_more now.history c.add.new.self (Worked (Took c.args.seat.now.number)) added)

pub returns-clause-taken : goal.returns-clause-taken
returns-clause-taken g c =
    let now = c.args.self.now in
    let seat = c.args.seat.now in
    let added = c.add.ensures.added in
    taken_at seat.number seat.front now.history c.seen.result now.desk c.take.new.self c.in_ok-job.field-0 c.in-Some.job c.in-Some.is now.led c.follow.ensures.grows (c.seen.ensures ∙ added) c.in_ok-job.ensures.ok

pub returns-clause-follows : goal.returns-clause-follows
returns-clause-follows g c =
    let now = c.args.self.now in
    let seat = c.args.seat.now in
    let added = c.add.ensures.added in
    prefix_more seat.front now.history c.seen.result (Worked (Took seat.number)) c.follow.ensures.grows (c.seen.ensures ∙ added)

pub returns-in_err-job-clause-cause : goal.returns-in_err-job-clause-cause
returns-in_err-job-clause-cause g c =
    let now = c.args.self.now in
    let fault = c.in_err-job.field-0.0 in
    let cause = take_refused_at fault now.history now.desk c.take.new.self now.led c.in_err-job.ensures.err in
    let here = subst (IsRefusedAt take_fault fault) (sym c.follow.ensures.seen) cause in search rules

pub returns-clause-some : goal.returns-clause-some
returns-clause-some g c = c.one_more.ensures.amount

pub returns-clause-all : goal.returns-clause-all
returns-clause-all g c = c.seen.ensures

pub returns-clause-others : goal.returns-clause-others
returns-clause-others g c = (refl, refl)

pub returns-clause-kept : goal.returns-clause-kept
returns-clause-kept g c = (refl, refl)

pub returns-clause-ends : goal.returns-clause-ends
returns-clause-ends g c = (refl, refl)
