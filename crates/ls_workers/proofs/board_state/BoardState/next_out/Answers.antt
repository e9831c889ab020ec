use Rattle.std.proofs.Common.{◌∙◌, ◌+◌, ℕ, length, List, inl, ap, arith, refl, subst, sym}
use Rattle.ls_machine.specs.declared.event.Event.TheVariants.{Sent}
use Rattle.ls_desk.specs.Stands.{ticket_of_out}
use Rattle.ls_workers.specs.Count.{Counts}
use Rattle.ls_workers.proofs.Entered.{counts_send, limits_stay}
use Rattle.ls_workers.proofs.Placed.{prefix_more}
use Rattle.ls_history.specs.declared.history_entry.HistoryEntry.{HistoryEntry}
use Rattle.ls_history.specs.declared.history_entry.HistoryEntry.TheVariants.{Left}
use Rattle.ls_history.proofs.Leads.{done_leads}
use Rattle.ls_history.proofs.Stops.{stop_more}
use Rattle.ls_history.specs.Told.{outs_of}
use Rattle.ls_history.proofs.Histories.{hears_keep_left, outs_more, sends_more}
use Rattle.ls_workers.proofs.board_state.BoardState.next_out.Goals as goal

pub add-requires-clause-leads : goal.add-requires-clause-leads
add-requires-clause-leads g c = λ is.
    let now = c.args.self.now in done_leads now.desk c.next_out.new.self now.history (Left c.in-Some.out) now.led c.in-Some.ensures.some

pub one_more-requires-clause-room : goal.one_more-requires-clause-room
one_more-requires-clause-room g c =
    let now = c.args.self.now in
    let counts = counts_send now.books.client.total now.books.took.total now.books.returned.total now.books.finished.total now.books.sent.total (ticket_of_out c.in-Some.out) now.desk c.next_out.new.self c.in-Some.ensures.some.enters now.counts in
    omega (arith, counts.sent_is, c.add.ensures.desk.small.sent, c.follow.ensures.total)

pub invariant_of-self-2-clause-counts : goal.invariant_of-self-2-clause-counts
invariant_of-self-2-clause-counts g c =
    let now = c.args.self.now in
    let new = c.next_out.new.self in
    subst (λ (n : ℕ). Counts now.books.client.total now.books.took.total now.books.returned.total now.books.finished.total n new) (sym (c.one_more.ensures.total ∙ ap (λ (n : ℕ). n + 1) c.follow.ensures.total))
    (counts_send now.books.client.total now.books.took.total now.books.returned.total now.books.finished.total now.books.sent.total (ticket_of_out c.in-Some.out) now.desk new c.in-Some.ensures.some.enters now.counts)

pub invariant_of-self-2-clause-limits : goal.invariant_of-self-2-clause-limits
invariant_of-self-2-clause-limits g c =
    let now = c.args.self.now in
    limits_stay g.C.Crew.max_journal g.C.Crew.max_events now.desk c.next_out.new.self (Sent (ticket_of_out c.in-Some.out)) c.in-Some.ensures.some.enters now.limits

pub returns-clause-ends : goal.returns-clause-ends
returns-clause-ends g c = (refl, refl)

pub invariant_of-seat : goal.invariant_of-seat
invariant_of-seat g c =
    let now = c.args.self.now in
    let seat = c.follow.new.self in
    record {
      whole = c.one_more.ensures.parts ∙ seat.whole;
      all_left = c.one_more.ensures.amount
          ∙ (ap (λ (n : ℕ). n + 1) (c.one_more.ensures.whole seat.whole ∙ c.follow.ensures.total)
          ∙ (sends_more now.books.sent.total now.history c.add.new.self c.in-Some.out now.leaves c.add.ensures.added ∙ ap (λ (log : List HistoryEntry). length (outs_of log)) (sym c.seen.ensures)));
    }

pub invariant_of-self-2-clause-hears : goal.invariant_of-self-2-clause-hears
invariant_of-self-2-clause-hears g c =
    let now = c.args.self.now in hears_keep_left now.books.heard.total now.history c.add.new.self c.in-Some.out now.hears c.add.ensures.added

pub invariant_of-self-2-clause-leaves : goal.invariant_of-self-2-clause-leaves
invariant_of-self-2-clause-leaves g c =
    let now = c.args.self.now in
    (c.one_more.ensures.total ∙ ap (λ (n : ℕ). n + 1) c.follow.ensures.total) ∙ sends_more now.books.sent.total now.history c.add.new.self c.in-Some.out now.leaves c.add.ensures.added

pub invariant_of-self-2-clause-ended : goal.invariant_of-self-2-clause-ended
invariant_of-self-2-clause-ended g c =
    let now = c.args.self.now in now.ended ∙ sym (stop_more now.history c.add.new.self (Left c.in-Some.out) c.add.ensures.added)

pub returns-clause-history : goal.returns-clause-history
returns-clause-history g c =
    let now = c.args.self.now in
    let seat = c.args.seat.now in
    let same = sym (ap outs_of c.follow.ensures.seen) ∙ c.follow.ensures.outs in
    ap outs_of (c.add-2.ensures.front ∙ c.seen.ensures)
    ∙ outs_more seat.front now.history c.add.new.self c.in-Some.out (inl c.follow.ensures.grows) (ap length same) c.add.ensures.added

pub returns-clause-follows : goal.returns-clause-follows
returns-clause-follows g c =
    let now = c.args.self.now in
    let seat = c.args.seat.now in
    let ends = c.add-2.ensures.front ∙ (c.seen.ensures ∙ c.add.ensures.added) in
    prefix_more seat.front now.history _ (Left c.in-Some.out) c.follow.ensures.grows ends
