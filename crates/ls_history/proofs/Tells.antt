-- A history says in one way what was heard and what was sent.
use Rattle.std.proofs.Common.{◌≡◌, ◌∙◌, ◌+◌, ◌∷◌, [], ℕ, List, Some, None, Result, Ok, Err, true, length, refl, ap, sym, arith, inl, inr}
use Rattle.std.specs.Prelude.{◌≢◌, filter_map}
use Rattle.ls_machine.specs.Client.{entry_of}
use Rattle.ls_machine.specs.Counts.{count_one}
use Rattle.ls_machine.specs.declared.base.Counts.{Counts}
use Rattle.ls_machine.specs.declared.client.ClientAnswer.{ClientAnswer}
use Rattle.ls_machine.specs.declared.client.ClientAnswer.TheVariants as answer
use Rattle.ls_machine.specs.declared.client.ClientEvent.{ClientEvent}
use Rattle.ls_machine.specs.declared.client.ClientEvent.TheVariants.{DidOpen, DidChange, DidClose, Request, Cancel, Say}
use Rattle.ls_machine.specs.declared.event.DeskFault.{DeskFault}
use Rattle.ls_machine.specs.declared.event.DeskFault.TheVariants.{Memory}
use Rattle.ls_machine.specs.declared.event.Event.{Event}
use Rattle.ls_machine.specs.declared.event.Event.TheVariants.{Opened, Changed, Closed, Asked, Cancelled, Said, Took, Returned, Finished, Sent}
use Rattle.ls_machine.specs.declared.state.State.{State}
use Rattle.ls_desk.specs.Door.{client_fault, entered_at}
use Rattle.ls_history.specs.declared.history_entry.HistoryEntry.{HistoryEntry}
use Rattle.ls_history.specs.declared.history_entry.HistoryEntry.TheVariants.{Began, Heard, Left, Stopped, Worked}
use Rattle.ls_history.specs.History.{IsLegalHistoryFrom, IsReply, is_workers, replay_entries}
use Rattle.ls_history.specs.Laws.{BeginningsAgree, HistoriesCount, RepliesAreUnique, answer_of_one}
use Rattle.ls_history.specs.Places.{Place, beginning, desk_at, place_behind, happens, heard_at}
use Rattle.ls_history.specs.Told.{heard_of, outs_of}
use Rattle.ls_history.proofs.Histories.{beside_heard, beside_outs}

-- the answer that an entry stands for
answer_from : Event → ClientAnswer
answer_from (Opened uri label text encoding version) = answer.Version version
answer_from (Changed uri label edits (Some version)) = answer.Version version
answer_from (Changed uri label edits None) = answer.Closed
answer_from (Closed uri) = answer.Closed
answer_from (Asked id uri ask links ticket) = answer.Ticket ticket
answer_from (Cancelled id found) = answer.Cancelled found
answer_from (Said body) = answer.Said
answer_from event = answer.Said

by_entry : (a : ClientAnswer) (x y : Event) → a ≡ answer_from x → Some x ≡ Some y → a ≡ answer_from y
by_entry a x y is same = let e : x ≡ y = cc (same) in is ∙ ap answer_from e

answer_is : (e : ClientEvent) (a : ClientAnswer) (x : Event) → entry_of e a ≡ Some x → a ≡ answer_from x
unfolding answer_from
answer_is (DidOpen uri label text encoding) (answer.Version version) x is = by_entry _ _ x refl is
answer_is (DidOpen uri label text encoding) answer.Closed x is = absurd (cc (is))
answer_is (DidOpen uri label text encoding) (answer.Ticket ticket) x is = absurd (cc (is))
answer_is (DidOpen uri label text encoding) (answer.Cancelled found) x is = absurd (cc (is))
answer_is (DidOpen uri label text encoding) answer.Said x is = absurd (cc (is))
answer_is (DidChange uri label edits) (answer.Version version) x is = by_entry _ _ x refl is
answer_is (DidChange uri label edits) answer.Closed x is = by_entry _ _ x refl is
answer_is (DidChange uri label edits) (answer.Ticket ticket) x is = absurd (cc (is))
answer_is (DidChange uri label edits) (answer.Cancelled found) x is = absurd (cc (is))
answer_is (DidChange uri label edits) answer.Said x is = absurd (cc (is))
answer_is (DidClose uri) (answer.Version version) x is = absurd (cc (is))
answer_is (DidClose uri) answer.Closed x is = by_entry _ _ x refl is
answer_is (DidClose uri) (answer.Ticket ticket) x is = absurd (cc (is))
answer_is (DidClose uri) (answer.Cancelled found) x is = absurd (cc (is))
answer_is (DidClose uri) answer.Said x is = absurd (cc (is))
answer_is (Request id uri ask links) (answer.Version version) x is = absurd (cc (is))
answer_is (Request id uri ask links) answer.Closed x is = absurd (cc (is))
answer_is (Request id uri ask links) (answer.Ticket ticket) x is = by_entry _ _ x refl is
answer_is (Request id uri ask links) (answer.Cancelled found) x is = absurd (cc (is))
answer_is (Request id uri ask links) answer.Said x is = absurd (cc (is))
answer_is (Cancel id) (answer.Version version) x is = absurd (cc (is))
answer_is (Cancel id) answer.Closed x is = absurd (cc (is))
answer_is (Cancel id) (answer.Ticket ticket) x is = absurd (cc (is))
answer_is (Cancel id) (answer.Cancelled found) x is = by_entry _ _ x refl is
answer_is (Cancel id) answer.Said x is = absurd (cc (is))
answer_is (Say body) (answer.Version version) x is = absurd (cc (is))
answer_is (Say body) answer.Closed x is = absurd (cc (is))
answer_is (Say body) (answer.Ticket ticket) x is = absurd (cc (is))
answer_is (Say body) (answer.Cancelled found) x is = absurd (cc (is))
answer_is (Say body) answer.Said x is = by_entry _ _ x refl is

abbrev answers : ClientAnswer → Result ClientAnswer DeskFault
answers a = Ok a

abbrev refused : DeskFault → Result ClientAnswer DeskFault
refused fault = Err fault

-- a refusal that isn't for want of memory is the first whose cause holds
cause_is : (p : Place) (e : ClientEvent) (fault : DeskFault) → IsReply p e (Err fault) → refused fault ≢ refused Memory → client_fault (desk_at p) e ≡ Some fault
cause_is p e fault may other = elim may [ inl memory ↦ absurd (other (ap refused memory)) | inr cause ↦ cause ]

pub replies_unique : RepliesAreUnique
replies_unique p e (Ok a) (Ok b) is also one other =
    ap answers (answer_is e a (entered_at p.state e) is.2 ∙ sym (answer_is e b (entered_at p.state e) also.2))
replies_unique p e (Ok a) (Err g) is also one other = let cause = cause_is p e g also other in absurd (cc (is.0, cause))
replies_unique p e (Err f) (Ok b) is also one other = let cause = cause_is p e f is one in absurd (cc (also.0, cause))
replies_unique p e (Err f) (Err g) is also one other =
    let first = cause_is p e f is one in
    let second = cause_is p e g also other in
    let same : f ≡ g = cc (first, second) in
    ap refused same

-- ---- counts

answered : List HistoryEntry → ℕ
answered log = length (filter_map answer_of_one (heard_of log))

-- so many of the client's events had an answer, and so many replies left, between two places
record Counted (p q : Place) (log : List HistoryEntry) : Type 0 where
  client : answered log + p.counts.client ≡ q.counts.client
  sent : length (outs_of log) + p.counts.sent ≡ q.counts.sent

one_of_client : (s : State) (e : ClientEvent) (c : Counts) → ((count_one c (entered_at s e)).client ≡ c.client + 1) × ((count_one c (entered_at s e)).sent ≡ c.sent)
one_of_client s (DidOpen uri label text encoding) c = (refl, refl)
one_of_client s (DidChange uri label edits) c = (refl, refl)
one_of_client s (DidClose uri) c = (refl, refl)
one_of_client s (Request id uri ask links) c = (refl, refl)
one_of_client s (Cancel id) c = (refl, refl)
one_of_client s (Say body) c = (refl, refl)

none_of_workers : (e : Event) (c : Counts) → is_workers e ≡ true → ((count_one c e).client ≡ c.client) × ((count_one c e).sent ≡ c.sent)
none_of_workers (Opened uri label text encoding version) c is = absurd (cc (is))
none_of_workers (Changed uri label edits version) c is = absurd (cc (is))
none_of_workers (Closed uri) c is = absurd (cc (is))
none_of_workers (Asked id uri ask links ticket) c is = absurd (cc (is))
none_of_workers (Cancelled id found) c is = absurd (cc (is))
none_of_workers (Said body) c is = absurd (cc (is))
none_of_workers (Took worker) c is = (refl, refl)
none_of_workers (Returned ticket) c is = (refl, refl)
none_of_workers (Finished ticket failed) c is = (refl, refl)
none_of_workers (Sent ticket) c is = absurd (cc (is))

counted_from : (p : Place) (log : List HistoryEntry) → IsLegalHistoryFrom p log → Counted p (replay_entries p log) log
unfolding answered
counted_from p [] legal = record { client = omega arith; sent = omega arith }
counted_from p (Began most ∷ log) legal = let more = counted_from (happens p (Began most)) log legal.1 in record { client = more.client; sent = more.sent }
counted_from p (Heard e (Ok a) ∷ log) legal =
    let more = counted_from (heard_at p e (Ok a)) log legal.1 in
    let there : heard_at p e (Ok a) ≡ place_behind p (Some (entered_at p.state e)) = ap (place_behind p) legal.0.0.2 in
    let one = one_of_client p.state e p.counts in
    record {
      client = omega (arith, more.client, ap (λ (q : Place). q.counts.client) there, one.0);
      sent = omega (arith, more.sent, ap (λ (q : Place). q.counts.sent) there, one.1);
    }
counted_from p (Heard e (Err fault) ∷ log) legal = let more = counted_from p log legal.1 in record { client = more.client; sent = more.sent }
counted_from p (Left out ∷ log) legal =
    let more = counted_from (happens p (Left out)) log legal.1 in
    record { client = more.client; sent = omega (arith, more.sent) }
counted_from p (Worked event ∷ log) legal =
    let more = counted_from (happens p (Worked event)) log legal.1 in
    let none = none_of_workers event p.counts legal.0.0.1 in
    record { client = omega (arith, more.client, none.0); sent = omega (arith, more.sent, none.1) }
counted_from p (Stopped stop ∷ log) legal = let more = counted_from p log legal.1 in record { client = more.client; sent = more.sent }

pub histories_count : HistoriesCount
unfolding answered
histories_count log legal = let all = counted_from beginning log legal in (omega (arith, all.client), omega (arith, all.sent))

pub beginnings_agree : BeginningsAgree
beginnings_agree xs ys beside = (beside_heard xs ys beside, beside_outs xs ys beside)
