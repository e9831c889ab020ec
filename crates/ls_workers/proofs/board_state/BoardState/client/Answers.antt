use Rattle.std.proofs.Common.{◌≡◌, ◌∙◌, ◌+◌, ◌++◌, ◌∷◌, [], ℕ, length, List, Some, Result, Ok, Err, OnOk, OnErr, IfOk, ap, arith, refl, rules, subst, sym}
use Rattle.ls_machine.specs.Client.{filled, note_of}
use Rattle.ls_machine.specs.declared.client.ClientAnswer.{ClientAnswer}
use Rattle.ls_machine.specs.declared.client.ClientEvent.{ClientEvent}
use Rattle.ls_machine.specs.declared.event.DeskFault.{DeskFault}
use Rattle.ls_machine.specs.declared.event.Event.{Event}
use Rattle.ls_desk.specs.Stands.{Seen}
use Rattle.ls_workers.specs.Count.{Counts}
use Rattle.ls_workers.specs.Jobs.{HasLimits}
use Rattle.ls_workers.specs.Seats.{logged_by}
use Rattle.ls_history.specs.declared.history_entry.HistoryEntry.{HistoryEntry}
use Rattle.ls_history.specs.Told.{LieBeside, heard_of}
use Rattle.ls_history.specs.declared.history_entry.HistoryEntry.TheVariants.{Heard}
use Rattle.ls_history.specs.Laws.{IsDone}
use Rattle.ls_history.proofs.Leads.{done_leads}
use Rattle.ls_history.proofs.Stops.{stop_more}
use Rattle.ls_history.proofs.Histories.{heard_more, hears_more, sends_keep_heard}
use Rattle.ls_workers.proofs.Entered.{counts_client}
use Rattle.ls_workers.proofs.Logging.{logs, same_counts, same_led, same_limits}
use Rattle.ls_workers.proofs.board_state.BoardState.client.Goals as goal

-- what the desk answered, or refused
abbrev Reply : Type 0
Reply = Result ClientAnswer DeskFault

on_ok : {P : Type 0} (r : Reply) (x : ClientAnswer) → r ≡ Ok x → OnOk r P → P
on_ok {P = P} r x is holds = subst (λ (s : Reply). OnOk s P) is holds

if_ok : (P : ClientAnswer → Type 0) (r : Reply) (x : ClientAnswer) → r ≡ Ok x → IfOk r P → P x
if_ok P r x is holds = subst (λ (s : Reply). IfOk s P) is holds

on_err : {P : Type 0} (r : Reply) (x : DeskFault) → r ≡ Err x → OnErr r P → P
on_err {P = P} r x is holds = subst (λ (s : Reply). OnErr s P) is holds

pub add_heard-requires : goal.add_heard-requires
add_heard-requires g c = λ is.
    let now = c.args.self.now in
    let new = c.enter-reply.new.desk in
    let reply = c.enter-reply.result in
    let same : c.args.event ≡ g.said = search rules in
    let done = subst (λ (e : ClientEvent). IsDone (Heard e reply) now.desk new) same c.enter-reply.ensures.done in
    done_leads now.desk new now.history (Heard g.said reply) now.led done

pub one_more-requires-clause-room : goal.one_more-requires-clause-room
one_more-requires-clause-room g c =
    let now = c.args.self.now in
    let adds = (on_ok c.enter-reply.result c.in-Ok.answer c.in-Ok.is c.enter-reply.ensures.counts).client_is in
    omega (arith, adds, now.counts.client_is, c.add_heard.ensures.desk.small.client)

pub returns-clause-ends : goal.returns-clause-ends
returns-clause-ends g c = (refl, refl)

pub invariant_of-self : goal.invariant_of-self
invariant_of-self g c =
    let now = c.args.self.now in
    let new = c.add_heard.new.self in
    let same = sym (on_err c.enter-reply.result c.in_default.field-0 c.in_default.is c.enter-reply.ensures.err) in
    let reply = c.enter-reply.result in
    let added = c.add_heard.ensures.added in
    record {
      counts = subst (λ (d : Seen). Counts now.books.client.total now.books.took.total now.books.returned.total now.books.finished.total now.books.sent.total d) same now.counts;
      limits = subst (λ (d : Seen). HasLimits g.C.Crew.max_journal g.C.Crew.max_events d) same now.limits;
      led = c.add_heard.ensures.led;
      hears = c.add.ensures.total ∙ hears_more c.audit.new.self.total now.history new g.said reply (c.audit.ensures.total ∙ now.hears) added;
      leaves = sends_keep_heard now.books.sent.total now.history new g.said reply now.leaves added;
      ended = now.ended ∙ sym (stop_more now.history new (Heard g.said reply) added);
    }

pub invariant_of-seat : goal.invariant_of-seat
invariant_of-seat g c =
    let now = c.args.self.now in
    let seat = c.args.seat.now in
    let new = c.add_heard.new.self in
    record {
      whole = seat.whole;
      whole_heard = c.add.ensures.parts ∙ (c.audit.ensures.parts ∙ seat.whole_heard);
      all_heard = c.add.ensures.amount
          ∙ (ap (λ (n : ℕ). n + 1) (c.audit.ensures.amount ∙ c.audit.ensures.whole seat.whole_heard)
          ∙ (hears_more now.books.heard.total now.history new g.said c.enter-reply.result now.hears c.add_heard.ensures.added ∙ ap (λ (log : List HistoryEntry). length (heard_of log)) (sym c.seen.ensures)));
    }

pub invariant_of-seat-2 : goal.invariant_of-seat-2
invariant_of-seat-2 g c =
    let now = c.args.self.now in
    let seat = c.args.seat.now in
    let new = c.add_heard.new.self in
    record {
      whole = c.one_more.ensures.parts ∙ seat.whole;
      whole_heard = c.add.ensures.parts ∙ (c.audit.ensures.parts ∙ seat.whole_heard);
      all_heard = c.add.ensures.amount
          ∙ (ap (λ (n : ℕ). n + 1) (c.audit.ensures.amount ∙ c.audit.ensures.whole seat.whole_heard)
          ∙ (hears_more now.books.heard.total now.history new g.said c.enter-reply.result now.hears c.add_heard.ensures.added ∙ ap (λ (log : List HistoryEntry). length (heard_of log)) (sym c.seen.ensures)));
    }

pub returns-in_default-clause-history : goal.returns-in_default-clause-history
returns-in_default-clause-history g c =
    let now = c.args.self.now in
    let seat = c.args.seat.now in
    ap heard_of c.seen.ensures
    ∙ heard_more seat.front now.history c.add_heard.new.self g.said c.enter-reply.result (subst (λ (log : List HistoryEntry). LieBeside seat.front log) c.front.ensures c.beside.ensures) (sym now.hears ∙ (sym (c.audit.ensures.whole seat.whole_heard) ∙ seat.all_heard)) c.add_heard.ensures.added

pub invariant_of-self-2-clause-hears : goal.invariant_of-self-2-clause-hears
invariant_of-self-2-clause-hears g c =
    let now = c.args.self.now in
    c.add.ensures.total ∙ hears_more c.audit.new.self.total now.history c.add_heard.new.self g.said c.enter-reply.result (c.audit.ensures.total ∙ now.hears) c.add_heard.ensures.added

pub invariant_of-self-2-clause-leaves : goal.invariant_of-self-2-clause-leaves
invariant_of-self-2-clause-leaves g c =
    let now = c.args.self.now in sends_keep_heard now.books.sent.total now.history c.add_heard.new.self g.said c.enter-reply.result now.leaves c.add_heard.ensures.added

pub invariant_of-self-2-clause-ended : goal.invariant_of-self-2-clause-ended
invariant_of-self-2-clause-ended g c =
    let now = c.args.self.now in now.ended ∙ sym (stop_more now.history c.add_heard.new.self (Heard g.said c.enter-reply.result) c.add_heard.ensures.added)

pub returns-clause-history : goal.returns-clause-history
returns-clause-history g c =
    let now = c.args.self.now in
    let seat = c.args.seat.now in
    (ap heard_of c.seen.ensures
    ∙ heard_more seat.front now.history c.add_heard.new.self g.said c.enter-reply.result (subst (λ (log : List HistoryEntry). LieBeside seat.front log) c.front.ensures c.beside.ensures) (sym now.hears ∙ (sym (c.audit.ensures.whole seat.whole_heard) ∙ seat.all_heard)) c.add_heard.ensures.added)
    ∙ ap (λ (reply : Reply). heard_of seat.front ++ (g.said, reply) ∷ []) c.in-Ok.is

pub invariant_of-self-2-clause-counts : goal.invariant_of-self-2-clause-counts
invariant_of-self-2-clause-counts g c =
    let now = c.args.self.now in
    same_counts c.one_more.new.book.total now.books.took.total now.books.returned.total now.books.finished.total now.books.sent.total c.enter-reply.new.desk c.log.new.desk c.log.ensures.desk
    (counts_client now.books.client.total now.books.took.total now.books.returned.total now.books.finished.total now.books.sent.total c.one_more.new.book.total now.desk c.enter-reply.new.desk (on_ok c.enter-reply.result c.in-Ok.answer c.in-Ok.is c.enter-reply.ensures.counts) now.counts c.one_more.ensures.total)

pub invariant_of-self-2-clause-limits : goal.invariant_of-self-2-clause-limits
invariant_of-self-2-clause-limits g c =
    let now = c.args.self.now in
    let limits = on_ok c.enter-reply.result c.in-Ok.answer c.in-Ok.is c.enter-reply.ensures.limits in
    same_limits g.C.Crew.max_journal g.C.Crew.max_events c.enter-reply.new.desk c.log.new.desk c.log.ensures.desk
    (record { journal_is = limits.journal_is ∙ now.limits.journal_is; events_is = limits.events_is ∙ now.limits.events_is })

pub invariant_of-self-2-clause-led : goal.invariant_of-self-2-clause-led
invariant_of-self-2-clause-led g c = same_led c.add_heard.new.self c.enter-reply.new.desk c.log.new.desk c.log.ensures.desk c.add_heard.ensures.led

pub returns-clause-logged : goal.returns-clause-logged
returns-clause-logged g c =
    let now = c.args.self.now in
    let answer = c.in-Ok.answer in
    let reply = c.enter-reply.result in
    let is = c.in-Ok.is in
    let entered = c.enter-reply.ensures in
    let came = c.log.ensures in
    let noted : c.in-Ok-Some.note ≡ note_of c.args.event = search rules in
    let entry = filled c.in-Ok-Some.note answer in
    logs c.args.event answer entry c.is_long-long.result now.desk c.enter-reply.new.desk c.log.new.desk (logged_by c.args.seat.now.audit_log) (logged_by c.log.new.self)
    (record { journal = if_ok _ reply answer is entered.ok; base = on_ok reply answer is entered.base; ended = on_ok reply answer is entered.ended; entry_is = if_ok _ reply answer is entered.told ∙ ap (λ (note : Event). Some (filled note answer)) (sym noted) })
    c.is_long-long.ensures
    (record { list = came.list; checkpoints = came.checkpoints; agreed = came.agreed })
    came.desk

pub returns-in_default-clause-added : goal.returns-in_default-clause-added
returns-in_default-clause-added g c = c.seen.ensures ∙ c.add_heard.ensures.added

pub returns-clause-added : goal.returns-clause-added
returns-clause-added g c =
    let now = c.args.self.now in
    c.seen.ensures ∙ (c.add_heard.ensures.added ∙ ap (λ (reply : Reply). now.history ++ Heard g.said reply ∷ []) c.in-Ok.is)

pub returns-clause-all : goal.returns-clause-all
returns-clause-all g c = c.seen.ensures
