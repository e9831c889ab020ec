-- The events of a legal history are a legal journal.
use Rattle.std.proofs.Common.{◌≡◌, ◌∙◌, ◌+◌, ◌≤◌, ◌∷◌, [], ℕ, List, Option, Some, None, Result, Ok, Err, length, refl, ap, sym, subst, arith}
use Rattle.std.specs.Prelude.{unwrap_or}
use Rattle.ls_machine.specs.Client.{entry_of}
use Rattle.ls_machine.specs.Counts.{count_one, counted_with, no_events, total}
use Rattle.ls_machine.specs.Journal.{IsLegalFrom, replay_from}
use Rattle.ls_machine.specs.Machine.{IsPossible, step}
use Rattle.ls_machine.specs.declared.client.ClientAnswer.{ClientAnswer}
use Rattle.ls_machine.specs.declared.client.ClientEvent.{ClientEvent}
use Rattle.ls_machine.specs.declared.event.DeskFault.{DeskFault}
use Rattle.ls_machine.specs.declared.event.Event.{Event}
use Rattle.ls_machine.proofs.Replays.{total_one}
use Rattle.ls_desk.specs.Door.{entered_at}
use Rattle.ls_history.specs.declared.history_entry.HistoryEntry.{HistoryEntry}
use Rattle.ls_history.specs.declared.history_entry.HistoryEntry.TheVariants.{Began, Heard, Left, Stopped, Worked}
use Rattle.ls_history.specs.History as history
use Rattle.ls_history.specs.History.{IsLegalHistory, IsReply, IsRoomy, IsNextEntry, replay_entries}
use Rattle.ls_history.specs.Places.{Place, beginning, place_behind, happens, heard_at}
use Rattle.ls_history.specs.Told.{machine_event_of, event_of_reply, events_of, with_event}
use Rattle.ls_history.specs.Laws.{HistoriesAreJournals}

-- these events go on legally from one place, and lead to another
record Goes (most : ℕ) (p q : Place) (events : List Event) : Type 0 where
  legal : IsLegalFrom most (total p.counts) p.state events
  state_is : replay_from p.state events ≡ q.state
  counts_are : counted_with p.counts events ≡ q.counts

goes_on : (most : ℕ) (p q : Place) (o : Option Event) (events : List Event) → ((e : Event) → o ≡ Some e → IsPossible p.state e)
    → total (place_behind p o).counts + length (place_behind p o).state.unsent ≤ most → Goes most (place_behind p o) q events → Goes most p q (with_event o events)
unfolding replay_from counted_with IsLegalFrom
goes_on most p q None events possible fits goes = goes
goes_on most p q (Some e) events possible fits goes =
    let one : total (count_one p.counts e) ≡ total p.counts + 1 = total_one p.counts e in
    record {
      legal = (possible e refl, omega (arith, fits, one), subst (λ (n : ℕ). IsLegalFrom most n (step p.state e) events) one goes.legal);
      state_is = goes.state_is;
      counts_are = goes.counts_are;
    }

heard_is : (p : Place) (e : ClientEvent) (reply : Result ClientAnswer DeskFault) → heard_at p e reply ≡ place_behind p (event_of_reply e reply)
heard_is p e (Ok answer) = refl
heard_is p e (Err fault) = refl

heard_possible : (p : Place) (e : ClientEvent) (reply : Result ClientAnswer DeskFault) → IsReply p e reply → (event : Event) → event_of_reply e reply ≡ Some event → IsPossible p.state event
heard_possible p e (Ok answer) may event is = let same : entered_at p.state e ≡ event = cc (may.2, is) in subst (IsPossible p.state) same may.1
heard_possible p e (Err fault) may event is = absurd (cc (is))

some_is : (e event : Event) → Some e ≡ Some event → e ≡ event
some_is e event is = cc (is)

limit_stays : (p : Place) (o : Option Event) → (place_behind p o).limit ≡ p.limit
limit_stays p None = refl
limit_stays p (Some e) = refl

fits_by : (most : ℕ) (p : Place) → p.limit ≡ Some most → IsRoomy p → total p.counts + length p.state.unsent ≤ most
fits_by most p limit roomy = subst (λ (o : Option ℕ). total p.counts + length p.state.unsent ≤ unwrap_or o 0) limit roomy

journal_from : (most : ℕ) (p : Place) (log : List HistoryEntry) → p.limit ≡ Some most → history.IsLegalHistoryFrom p log → Goes most p (replay_entries p log) (events_of log)
unfolding replay_from counted_with IsLegalFrom
journal_from most p [] limit legal = record { legal = tt; state_is = refl; counts_are = refl }
journal_from most p (Began other ∷ log) limit legal = absurd (let none = ap (λ (q : Place). q.limit) legal.0.0 in cc (limit, none))
journal_from most p (Heard e reply ∷ log) limit legal =
    let o = event_of_reply e reply in
    let same = heard_is p e reply in
    let more = subst (λ (q : Place). history.IsLegalHistoryFrom q log) same legal.1 in
    let kept = limit_stays p o ∙ limit in
    let goes = journal_from most (place_behind p o) log kept more in
    goes_on most p (replay_entries (heard_at p e reply) log) o (events_of log) (heard_possible p e reply legal.0.0)
    (fits_by most (place_behind p o) kept (subst IsRoomy same legal.0.1))
    (subst (λ (q : Place). Goes most (place_behind p o) (replay_entries q log) (events_of log)) (sym same) goes)
journal_from most p (Left out ∷ log) limit legal =
    let o = machine_event_of (Left out) in
    goes_on most p (replay_entries (place_behind p o) log) o (events_of log) (λ event is. subst (IsPossible p.state) (some_is _ event is) legal.0.0.0)
    (fits_by most (place_behind p o) limit legal.0.1) (journal_from most (place_behind p o) log limit legal.1)
journal_from most p (Worked event ∷ log) limit legal =
    let o : Option Event = Some event in
    goes_on most p (replay_entries (place_behind p o) log) o (events_of log) (λ other is. subst (IsPossible p.state) (some_is event other is) legal.0.0.0)
    (fits_by most (place_behind p o) limit legal.0.1) (journal_from most (place_behind p o) log limit legal.1)
journal_from most p (Stopped stop ∷ log) limit legal = journal_from most p log limit legal.1

pub limit_kept : (most : ℕ) (p : Place) (log : List HistoryEntry) → p.limit ≡ Some most → history.IsLegalHistoryFrom p log → (replay_entries p log).limit ≡ Some most
limit_kept most p [] limit legal = limit
limit_kept most p (Began other ∷ log) limit legal = absurd (let none = ap (λ (q : Place). q.limit) legal.0.0 in cc (limit, none))
limit_kept most p (Heard e reply ∷ log) limit legal =
    limit_kept most (heard_at p e reply) log (ap (λ (q : Place). q.limit) (heard_is p e reply) ∙ (limit_stays p (event_of_reply e reply) ∙ limit)) legal.1
limit_kept most p (Left out ∷ log) limit legal = limit_kept most (place_behind p (machine_event_of (Left out))) log limit legal.1
limit_kept most p (Worked event ∷ log) limit legal = limit_kept most (place_behind p (Some event)) log limit legal.1
limit_kept most p (Stopped stop ∷ log) limit legal = limit_kept most p log limit legal.1

-- before the board began no event has room
no_room : (o : Option Event) (event : Event) → o ≡ Some event → IsRoomy (place_behind beginning o) → ⊥
no_room None event is roomy = absurd (cc (is))
no_room (Some e) event is roomy = let one : total (count_one no_events e) ≡ total no_events + 1 = total_one no_events e in absurd (omega (arith, one, roomy))

from_beginning : (most : ℕ) (log : List HistoryEntry) → IsLegalHistory log → (replay_entries beginning log).limit ≡ Some most → Goes most beginning (replay_entries beginning log) (events_of log)
from_beginning most [] legal limit = absurd (cc (limit))
from_beginning most (Began other ∷ log) legal limit =
    let kept = limit_kept other (happens beginning (Began other)) log refl legal.1 in
    let same : Some other ≡ Some most = sym kept ∙ limit in
    let goes = journal_from most (happens beginning (Began other)) log same legal.1 in
    record { legal = goes.legal; state_is = goes.state_is; counts_are = goes.counts_are }
from_beginning most (Heard e (Ok answer) ∷ log) legal limit = absurd (no_room (entry_of e answer) (entered_at beginning.state e) legal.0.0.2 legal.0.1)
from_beginning most (Heard e (Err fault) ∷ log) legal limit = from_beginning most log legal.1 limit
from_beginning most (Left out ∷ log) legal limit = absurd (no_room (machine_event_of (Left out)) _ refl legal.0.1)
from_beginning most (Worked event ∷ log) legal limit = absurd (no_room (Some event) event refl legal.0.1)
from_beginning most (Stopped stop ∷ log) legal limit = from_beginning most log legal.1 limit

pub histories_journals : HistoriesAreJournals
histories_journals most log legal limit =
    let goes = from_beginning most log legal limit in
    record { legal = goes.legal; state_is = goes.state_is; counts_are = goes.counts_are }
