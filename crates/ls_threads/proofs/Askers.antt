-- Which request a reply is to.
use Rattle.std.proofs.Common.{◌≡◌, ◌∙◌, ℕ, ◌+◌, ◌≤◌, List, [], ◌∷◌, ◌++◌, Option, None, Some, Ok, Err, refl, sym, ap, subst, append_assoc, arith, Bool}
use Rattle.std.specs.List.{AllByRecursion}
use Rattle.ls_rpc.specs.declared.message.Id.{Id}
use Rattle.ls_answers.specs.Told.{Told}
use Rattle.ls_answers.specs.declared.ask.Ask.{Ask}
use Rattle.ls_machine.specs.Client.{entry_of}
use Rattle.ls_machine.specs.Journal.{IsLegal, replay}
use Rattle.ls_machine.specs.Laws.{IsMadeBy, WasEntryCurrent, WereEntriesCurrent}
use Rattle.ls_machine.specs.Machine.{start, step}
use Rattle.ls_machine.specs.declared.event.Event.{Event}
use Rattle.ls_machine.specs.declared.event.Event.TheVariants.{Asked, Sent}
use Rattle.ls_machine.specs.declared.event.Out.{Out}
use Rattle.ls_machine.specs.declared.state.OutboxEntry.{OutboxEntry}
use Rattle.ls_machine.specs.declared.state.OutboxEntry.TheVariants.{Body, Failure, Outcome}
use Rattle.ls_machine.specs.declared.state.Request.{Request}
use Rattle.ls_machine.specs.declared.state.State.{State}
use Rattle.ls_machine.specs.declared.state.Waiting.{Waiting}
use Rattle.ls_machine.proofs.Once.{gives, legal_at, legal_before, low_start, one_giver}
use Rattle.ls_machine.proofs.Ordered.{ordered}
use Rattle.ls_machine.proofs.Replays.{replay_none, replay_push}
use Rattle.ls_desk.specs.Stands.{IsOutFor, out_of, ticket_of_out}
use Rattle.ls_history.specs.declared.history_entry.HistoryEntry.{HistoryEntry}
use Rattle.ls_history.specs.declared.history_entry.HistoryEntry.TheVariants.{Began, Heard, Left, Stopped, Worked}
use Rattle.ls_history.specs.History.{IsLegalHistoryFrom}
use Rattle.ls_history.specs.Places.{Place, beginning, place_behind, happens}
use Rattle.ls_history.specs.Told.{events_of, outs_of, with_event}
use Rattle.ls_threads.specs.Laws.{IsReplyTo}

-- ---- who got a ticket

-- of the events of a journal this is the request with this id, and it was given this ticket
record Asks (journal : List Event) (id : Id) (t : ℕ) : Type 0 where
  before : List Event
  uri : List ℕ
  question : Ask
  links : Bool
  later : List Event
  journal_is : journal ≡ before ++ Asked id uri question links t ∷ later
  is : (replay before).next_ticket ≡ t
  next : (step (replay before) (Asked id uri question links t)).next_ticket ≡ t + 1

asks : (most : ℕ) (journal before later : List Event) (id : Id) (uri : List ℕ) (question : Ask) (links : Bool) (t : ℕ) → IsLegal most journal
    → journal ≡ before ++ Asked id uri question links t ∷ later → Asks journal id t
asks most journal before later id uri question links t legal is =
    let P : List Event → Type 0 = λ es. IsLegal most es in
    let e = Asked id uri question links t in
    let g = gives (replay before) id uri question links t (legal_at most 0 start before e later (subst P is legal)) in
    record { before = before; uri = uri; question = question; links = links; later = later; journal_is = is; is = sym g.is; next = g.next ∙ ap (λ n. n + 1) (sym g.is) }

-- whatever event gave this ticket is that request
giver_is : (journal : List Event) (id : Id) (t : ℕ) (a : Asks journal id t) (before later : List Event) (e : Event) → journal ≡ before ++ e ∷ later
    → (replay before).next_ticket ≡ t → (step (replay before) e).next_ticket ≡ t + 1 → e ≡ Asked id a.uri a.question a.links t
giver_is journal id t a before later e is now next =
    one_giver start before a.before e (Asked id a.uri a.question a.links t) later a.later t (sym is ∙ a.journal_is) now next a.is a.next

same_id : (id other : Id) (uri uris : List ℕ) (q r : Ask) (links more : Bool) (t : ℕ) → Asked other uri q links t ≡ Asked id uris r more t → other ≡ id
same_id id other uri uris q r links more t e = cc

one_asker : (journal : List Event) (id other : Id) (t : ℕ) → Asks journal id t → Asks journal other t → other ≡ id
one_asker journal id other t a b =
    same_id id other b.uri a.uri b.question a.question b.links a.links t (giver_is journal id t a b.before b.later (Asked other b.uri b.question b.links t) b.journal_is b.is b.next)

-- ---- so is a reply with that ticket

abbrev To : Id → ℕ → Out → Type 0
To id t out = ticket_of_out out ≡ t → IsReplyTo id out

-- a legal journal has this request, which got this ticket
record Known (most : ℕ) (journal : List Event) (id : Id) (t : ℕ) : Type 0 where
  legal : IsLegal most journal
  asks : Asks journal id t
  low : 1 ≤ t

ticket_of_run : (w : Waiting) (r : Option Request) (done : Told) → ticket_of_out (out_of w r done) ≡ done.ticket
ticket_of_run w None done = refl
ticket_of_run w (Some r) done = refl

run_to : (id : Id) (links : Bool) (w : Waiting) (done : Told) (out : Out) → out ≡ out_of w w.request done → w.request ≡ Some (record { id = id; links = links }) → IsReplyTo id out
run_to id links w done out is made = subst (IsReplyTo id) (sym (is ∙ ap (λ r. out_of w r done) made)) refl

behind : (pre rest whole before later : List Event) (e : Event) → pre ++ rest ≡ whole → pre ≡ before ++ e ∷ later → whole ≡ before ++ e ∷ (later ++ rest)
behind pre rest whole before later e all is = sym all ∙ (ap (λ l. l ++ rest) is ∙ append_assoc before (e ∷ later) rest)

out_to : (most : ℕ) (pre rest whole : List Event) (id : Id) (t : ℕ) (x : OutboxEntry) (out : Out)
    → Known most whole id t → pre ++ rest ≡ whole → WasEntryCurrent pre x → IsOutFor x out → To id t out
unfolding IsOutFor
out_to most pre rest whole id t (Body body) out known all was right = λ e.
    let none = ap ticket_of_out right in
    let low = known.low in
    absurd (omega (arith, none, e, low))
out_to most pre rest whole id t (Failure ticket other code) out known all was right = λ e.
    let same : ticket ≡ t = sym (ap ticket_of_out right) ∙ e in
    let P : ℕ → Type 0 = λ n. whole ≡ was.before ++ Asked other was.uri was.question was.links n ∷ (was.later ++ rest) in
    let is = subst P same (behind pre rest whole was.before was.later (Asked other was.uri was.question was.links ticket) all was.journal_is) in
    let one = one_asker whole id other t known.asks (asks most whole was.before (was.later ++ rest) other was.uri was.question was.links t known.legal is) in
    subst (IsReplyTo id) (sym right) one
out_to most pre rest whole id t (Outcome w) out known all was right = λ e.
    let a = known.asks in
    let same : w.ticket ≡ t = sym right.2.ticket ∙ (sym (ap ticket_of_out right.1 ∙ ticket_of_run w w.request right.0) ∙ e) in
    let is = behind pre rest whole was.before was.later was.event all was.journal_is in
    let it = giver_is whole id t a was.before (was.later ++ rest) was.event is (was.ticket_is ∙ same) (was.given ∙ ap (λ n. n + 1) same) in
    let Q : Event → Type 0 = λ y. IsMadeBy y w in
    let made = subst Q it was.made_by in
    run_to id a.links w right.0 out right.1 made.0

first_current : (journal : List Event) (unsent : List OutboxEntry) (e : OutboxEntry) (es : List OutboxEntry) → unsent ≡ e ∷ es → WereEntriesCurrent journal unsent → WasEntryCurrent journal e
unfolding WereEntriesCurrent
first_current journal unsent e es is were = let now = subst (WereEntriesCurrent journal) is were in now.0

-- ---- and so are all that left

-- these events lead there, and the rest comes behind them
abbrev Leads : List Event → List Event → Place → Type 0
Leads rest whole p = (pre : List Event) × (replay pre ≡ p.state) × (pre ++ rest ≡ whole)

goes_on : (rest whole : List Event) (p : Place) (o : Option Event) → Leads (with_event o rest) whole p → Leads rest whole (place_behind p o)
goes_on rest whole p None l = l
goes_on rest whole p (Some e) l = (l.0 ++ e ∷ [], replay_push start l.0 e ∙ ap (λ s. step s e) l.1, append_assoc l.0 (e ∷ []) rest ∙ l.2)

outs_to : (most : ℕ) (whole : List Event) (id : Id) (t : ℕ) (p : Place) (log : List HistoryEntry) → Known most whole id t → Leads (events_of log) whole p → IsLegalHistoryFrom p log
    → AllByRecursion (To id t) (outs_of log)
outs_to most whole id t p [] known l legal = tt
outs_to most whole id t p (Began limit ∷ log) known l legal = outs_to most whole id t (happens p (Began limit)) log known l legal.1
outs_to most whole id t p (Heard e (Ok answer) ∷ log) known l legal =
    outs_to most whole id t (happens p (Heard e (Ok answer))) log known (goes_on (events_of log) whole p (entry_of e answer) l) legal.1
outs_to most whole id t p (Heard e (Err fault) ∷ log) known l legal = outs_to most whole id t p log known l legal.1
outs_to most whole id t p (Left out ∷ log) known l legal =
    let sent = Sent (ticket_of_out out) in
    let P : List Event → Type 0 = λ js. IsLegal most js in
    let sooner = legal_before most 0 start l.0 (sent ∷ events_of log) (subst P (sym l.2) known.legal) in
    let right = legal.0.0.1 in
    let was = first_current l.0 (replay l.0).unsent right.0 right.1 (ap (λ (s : State). s.unsent) l.1 ∙ right.2) (ordered most l.0 sooner).unsent in
    let now = out_to most l.0 (sent ∷ events_of log) whole id t right.0 out known l.2 was right.3 in
    (now, outs_to most whole id t (happens p (Left out)) log known (goes_on (events_of log) whole p (Some sent) l) legal.1)
outs_to most whole id t p (Stopped stop ∷ log) known l legal = outs_to most whole id t p log known l legal.1
outs_to most whole id t p (Worked event ∷ log) known l legal =
    outs_to most whole id t (happens p (Worked event)) log known (goes_on (events_of log) whole p (Some event) l) legal.1

-- the replies of a history with the ticket of a request that stands among its events
pub replies_to : (most : ℕ) (log : List HistoryEntry) (before later : List Event) (id : Id) (uri : List ℕ) (question : Ask) (links : Bool) (t : ℕ) → IsLegal most (events_of log)
    → IsLegalHistoryFrom beginning log → events_of log ≡ before ++ Asked id uri question links t ∷ later → AllByRecursion (λ out. ticket_of_out out ≡ t → IsReplyTo id out) (outs_of log)
replies_to most log before later id uri question links t legal happened among =
    let a = asks most (events_of log) before later id uri question links t legal among in
    let known : Known most (events_of log) id t = record { legal = legal; asks = a; low = subst (λ n. 1 ≤ n) a.is (low_start a.before) } in
    outs_to most (events_of log) id t beginning log known ([], replay_none start, refl) happened
