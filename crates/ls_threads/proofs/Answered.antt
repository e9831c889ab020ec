-- Requests, once all jobs have run and all replies have left.
use Rattle.std.proofs.Common.{◌≡◌, ◌∙◌, ℕ, Bool, List, [], ◌∷◌, ◌++◌, map, Option, None, Some, Result, Ok, Err, true, refl, sym, ap, subst, arith}
use Rattle.std.specs.Prelude.{◌==◌, count_by}
use Rattle.ls_rpc.specs.declared.message.Id.{Id}
use Rattle.ls_answers.specs.declared.ask.Ask.{Ask}
use Rattle.ls_machine.specs.Client.{sent_ticket, sent_tickets}
use Rattle.ls_machine.specs.Journal as journal
use Rattle.ls_machine.specs.Laws.{has_ticket, is_told_of, places}
use Rattle.ls_machine.specs.declared.client.ClientAnswer.{ClientAnswer}
use Rattle.ls_machine.specs.declared.client.ClientAnswer.TheVariants.{Ticket}
use Rattle.ls_machine.specs.declared.client.ClientEvent.{ClientEvent}
use Rattle.ls_machine.specs.declared.client.ClientEvent.TheVariants.{DidOpen, DidChange, DidClose, Request, Cancel, Say}
use Rattle.ls_machine.specs.declared.event.DeskFault.{DeskFault}
use Rattle.ls_machine.specs.declared.event.Event.{Event}
use Rattle.ls_machine.specs.declared.event.Event.TheVariants.{Opened, Changed, Closed, Asked, Cancelled, Said, Took, Returned, Finished, Sent}
use Rattle.ls_machine.specs.declared.event.Out.{Out}
use Rattle.ls_machine.specs.declared.state.OutboxEntry.{OutboxEntry}
use Rattle.ls_machine.specs.declared.state.State.{State}
use Rattle.ls_machine.specs.declared.state.Waiting.{Waiting}
use Rattle.ls_machine.proofs.Once.{count_append, requests_once}
use Rattle.ls_desk.specs.Door.{entered_at}
use Rattle.ls_desk.specs.Stands.{ticket_of_out}
use Rattle.ls_history.specs.declared.history_entry.HistoryEntry.{HistoryEntry}
use Rattle.ls_history.specs.declared.history_entry.HistoryEntry.TheVariants.{Began, Heard, Left, Stopped, Worked}
use Rattle.ls_history.specs.History.{IsLegalHistory, IsLegalHistoryFrom, is_workers, replay_entries}
use Rattle.ls_history.specs.Places.{Place, beginning, happens}
use Rattle.ls_history.specs.Told.{event_of_reply, events_of, heard_of, outs_of, with_event}
use Rattle.ls_history.proofs.Journals.{histories_journals}
use Rattle.ls_threads.specs.Reading.{HeardReplies}
use Rattle.ls_threads.proofs.Askers.{replies_to}
use Rattle.ls_threads.specs.Laws.{EachRequest, IsAnsweredOnce}

-- ---- what was sent has its ticket once, where nothing waits and nothing is unsent

told : List Event → ℕ → ℕ
told js t = count_by (λ sent. sent == t) (sent_tickets js)

none_left : (js : List Event) (t : ℕ) → (journal.replay js).waiting ≡ [] → (journal.replay js).unsent ≡ [] → places js t ≡ told js t
unfolding told
none_left js t w u =
    let a : count_by (has_ticket t) (journal.replay js).waiting ≡ 0 = ap (λ (ws : List Waiting). count_by (has_ticket t) ws) w in
    let b : count_by (is_told_of t) (journal.replay js).unsent ≡ 0 = ap (λ (es : List OutboxEntry). count_by (is_told_of t) es) u in
    omega (arith, a, b)

told_once : (most : ℕ) (js before later : List Event) (id : Id) (uri : List ℕ) (question : Ask) (links : Bool) (t : ℕ)
    → journal.IsLegal most js → js ≡ before ++ Asked id uri question links t ∷ later → (journal.replay js).waiting ≡ [] → (journal.replay js).unsent ≡ [] → told js t ≡ 1
told_once most js before later id uri question links t legal is w u =
    let P : List Event → Type 0 = λ es. journal.IsLegal most es in
    let once : places js t ≡ 1 = subst (λ es. places es t ≡ 1) (sym is) (requests_once most before later id uri question links t (subst P is legal)) in
    sym (none_left js t w u) ∙ once

-- ---- a request that was heard stands among the machine's events

abbrev Splits : List Event → Event → Type 0
Splits js y = (before : List Event) × (later : List Event) × (js ≡ before ++ y ∷ later)

split_on : (o : Option Event) (es : List Event) (y : Event) → Splits es y → Splits (with_event o es) y
split_on None es y s = s
split_on (Some e) es y s = (e ∷ s.0, s.1, ap (λ l. e ∷ l) s.2)

abbrev accepted : Id → List ℕ → Ask → Bool → ℕ → ClientEvent × Result ClientAnswer DeskFault
accepted id uri question links t = (Request id uri question links, Ok (Ticket t))

none_heard : (before later : HeardReplies) (id : Id) (uri : List ℕ) (question : Ask) (links : Bool) (t : ℕ) → [] ≡ before ++ accepted id uri question links t ∷ later → ⊥
none_heard [] later id uri question links t q = cc
none_heard (x ∷ before) later id uri question links t q = cc

heard_split : (log : List HistoryEntry) (before later : HeardReplies) (id : Id) (uri : List ℕ) (question : Ask) (links : Bool) (t : ℕ)
    → heard_of log ≡ before ++ accepted id uri question links t ∷ later → Splits (events_of log) (Asked id uri question links t)
heard_split [] before later id uri question links t q = absurd (none_heard before later id uri question links t q)
heard_split (Began most ∷ log) before later id uri question links t q = heard_split log before later id uri question links t q
heard_split (Heard e reply ∷ log) [] later id uri question links t q =
    let one : ClientEvent × Result ClientAnswer DeskFault = (e, reply) in
    let same : one ≡ accepted id uri question links t = cc in
    ([], events_of log, ap (λ (r : ClientEvent × Result ClientAnswer DeskFault). with_event (event_of_reply r.0 r.1) (events_of log)) same)
heard_split (Heard e reply ∷ log) (x ∷ before) later id uri question links t q =
    let rest : heard_of log ≡ before ++ accepted id uri question links t ∷ later = cc in
    split_on (event_of_reply e reply) (events_of log) (Asked id uri question links t) (heard_split log before later id uri question links t rest)
heard_split (Left out ∷ log) before later id uri question links t q =
    split_on (Some (Sent (ticket_of_out out))) (events_of log) (Asked id uri question links t) (heard_split log before later id uri question links t q)
heard_split (Stopped stop ∷ log) before later id uri question links t q = heard_split log before later id uri question links t q
heard_split (Worked event ∷ log) before later id uri question links t q =
    split_on (Some event) (events_of log) (Asked id uri question links t) (heard_split log before later id uri question links t q)

-- ---- the tickets of the replies are those that the machine sent

none_sent : (e : Event) (es : List Event) → sent_ticket e ≡ None → sent_tickets (e ∷ es) ≡ sent_tickets es
none_sent e es is = rw is refl

client_sends : (s : State) (e : ClientEvent) → sent_ticket (entered_at s e) ≡ None
client_sends s (DidOpen uri label text encoding) = refl
client_sends s (DidChange uri label edits) = refl
client_sends s (DidClose uri) = refl
client_sends s (Request id uri ask links) = refl
client_sends s (Cancel id) = refl
client_sends s (Say body) = refl

worker_sends : (e : Event) → is_workers e ≡ true → sent_ticket e ≡ None
worker_sends (Opened uri label text encoding version) is = absurd (cc (is))
worker_sends (Changed uri label edits version) is = absurd (cc (is))
worker_sends (Closed uri) is = absurd (cc (is))
worker_sends (Asked id uri ask links ticket) is = absurd (cc (is))
worker_sends (Cancelled id found) is = absurd (cc (is))
worker_sends (Said body) is = absurd (cc (is))
worker_sends (Took worker) is = refl
worker_sends (Returned ticket) is = refl
worker_sends (Finished ticket failed) is = refl
worker_sends (Sent ticket) is = absurd (cc (is))

tickets_of : (p : Place) (log : List HistoryEntry) → IsLegalHistoryFrom p log → sent_tickets (events_of log) ≡ map ticket_of_out (outs_of log)
tickets_of p [] legal = refl
tickets_of p (Began most ∷ log) legal = tickets_of (happens p (Began most)) log legal.1
tickets_of p (Heard e (Ok answer) ∷ log) legal =
    ap (λ (o : Option Event). sent_tickets (with_event o (events_of log))) legal.0.0.2
    ∙ (none_sent (entered_at p.state e) (events_of log) (client_sends p.state e) ∙ tickets_of (happens p (Heard e (Ok answer))) log legal.1)
tickets_of p (Heard e (Err fault) ∷ log) legal = tickets_of p log legal.1
tickets_of p (Left out ∷ log) legal = ap (λ l. ticket_of_out out ∷ l) (tickets_of (happens p (Left out)) log legal.1)
tickets_of p (Stopped stop ∷ log) legal = tickets_of p log legal.1
tickets_of p (Worked event ∷ log) legal = none_sent event (events_of log) (worker_sends event legal.0.0.1) ∙ tickets_of (happens p (Worked event)) log legal.1

count_map : (outs : List Out) (t : ℕ) → count_by (λ out. ticket_of_out out == t) outs ≡ count_by (λ sent. sent == t) (map ticket_of_out outs)
count_map [] t = refl
count_map (o ∷ outs) t =
    let a = count_append (λ out. ticket_of_out out == t) (o ∷ []) outs in
    let b = count_append (λ sent. sent == t) (ticket_of_out o ∷ []) (map ticket_of_out outs) in
    let c = count_map outs t in
    omega (arith, a, b, c)

-- ---- so a legal history that leaves nothing behind has answered each request that it heard and accepted

pub history_answers : (most : ℕ) (log : List HistoryEntry) → IsLegalHistory log → (replay_entries beginning log).limit ≡ Some most
    → (replay_entries beginning log).state.waiting ≡ [] → (replay_entries beginning log).state.unsent ≡ [] → EachRequest (IsAnsweredOnce (outs_of log)) (heard_of log)
unfolding told
history_answers most log legal limit waiting unsent = λ before later id uri question links ticket among.
    let is = histories_journals most log legal limit in
    let split = heard_split log before later id uri question links ticket among in
    let once = told_once most (events_of log) split.0 split.1 id uri question links ticket is.legal split.2 (ap (λ (s : State). s.waiting) is.state_is ∙ waiting)
    (ap (λ (s : State). s.unsent) is.state_is ∙ unsent) in
    record {
      once = count_map (outs_of log) ticket ∙ (ap (λ (ns : List ℕ). count_by (λ sent. sent == ticket) ns) (sym (tickets_of beginning log legal)) ∙ once);
      to = replies_to most log split.0 split.1 id uri question links ticket is.legal legal split.2;
    }
