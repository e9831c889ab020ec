-- When a history is legal: each entry may happen where those before it have led.
use Rattle.std.specs.Prelude.{◌≡◌, ◌⊎◌, ◌+◌, ◌<◌, ◌≤◌, ◌^◌, length, List, [], ◌∷◌, Bool, true, false, Some, None, Result, Ok, Err, unwrap_or}
use Rattle.ls_machine.specs.Counts.{no_events, total}
use Rattle.ls_machine.specs.Client.{entry_of}
use Rattle.ls_machine.specs.Machine.{IsPossible}
use Rattle.ls_machine.specs.declared.base.Counts.{Counts}
use Rattle.ls_machine.specs.declared.client.ClientAnswer.{ClientAnswer}
use Rattle.ls_machine.specs.declared.client.ClientEvent.{ClientEvent}
use Rattle.ls_machine.specs.declared.event.DeskFault.{DeskFault}
use Rattle.ls_machine.specs.declared.event.DeskFault.TheVariants.{Memory}
use Rattle.ls_machine.specs.declared.event.Event.{Event}
use Rattle.ls_machine.specs.declared.event.Event.TheVariants.{Sent, Took, Returned, Finished}
use Rattle.ls_machine.specs.declared.event.Out.{Out}
use Rattle.ls_machine.specs.declared.state.OutboxEntry.{OutboxEntry}
use Rattle.ls_desk.specs.Door.{client_fault, entered_at}
use Rattle.ls_desk.specs.Stands.{IsOutFor, IsSound, Seen, counts_of, ticket_of_out}
use Rattle.ls_history.specs.declared.history_entry.HistoryEntry.{HistoryEntry}
use Rattle.ls_history.specs.declared.history_entry.HistoryEntry.TheVariants.{Began, Heard, Left, Stopped, Worked}
use Rattle.ls_history.specs.Places.{Place, beginning, desk_at, happens, place_of_desk}

-- An answer stands where nothing is against the event, and is the machine's. A refusal stands where it is the first whose cause holds.
-- Memory may be refused anywhere.
abbrev pub IsReply : Place → ClientEvent → Result ClientAnswer DeskFault → Type 0
IsReply p e (Ok answer) = (client_fault (desk_at p) e ≡ None) × IsPossible p.state (entered_at p.state e) × (entry_of e answer ≡ Some (entered_at p.state e))
IsReply p e (Err fault) = (fault ≡ Memory) ⊎ (client_fault (desk_at p) e ≡ Some fault)

-- The reply is for the first unsent entry there: that of a job that has run has the answer for the job's own text.
abbrev pub IsReplyOut : Place → Out → Type 0
IsReplyOut p out = IsPossible p.state (Sent (ticket_of_out out)) × ((e : OutboxEntry) × (es : List OutboxEntry) × (p.state.unsent ≡ e ∷ es) × IsOutFor e out)

-- The event is one that a worker makes.
abbrev pub is_workers : Event → Bool
is_workers (Took worker) = true
is_workers (Returned ticket) = true
is_workers (Finished ticket failed) = true
is_workers _ = false

-- The entry is possible there. A history begins but once, and a board may always be asked to end.
abbrev pub IsNextEntry : Place → HistoryEntry → Type 0
IsNextEntry p (Began most) = p ≡ beginning
IsNextEntry p (Heard e reply) = IsReply p e reply
IsNextEntry p (Left out) = IsReplyOut p out
IsNextEntry p (Worked event) = IsPossible p.state event × (is_workers event ≡ true)
IsNextEntry p (Stopped stop) = Unit {0}

-- The events so far and the unsent entries are within the limit.
abbrev pub IsRoomy : Place → Type 0
IsRoomy p = total p.counts + length p.state.unsent ≤ unwrap_or p.limit 0

-- The entry is possible there, and behind it the events and the unsent entries are within the limit.
abbrev pub MayHappen : Place → HistoryEntry → Type 0
MayHappen p h = IsNextEntry p h × IsRoomy (happens p h)

-- where entries lead, one after the other
abbrev pub replay_entries : Place → List HistoryEntry → Place
replay_entries p [] = p
replay_entries p (h ∷ hs) = replay_entries (happens p h) hs

-- Each entry may happen where it stands, from this place on.
abbrev pub IsLegalHistoryFrom : Place → List HistoryEntry → Type 0
IsLegalHistoryFrom p [] = Unit {0}
IsLegalHistoryFrom p (h ∷ hs) = MayHappen p h × IsLegalHistoryFrom (happens p h) hs

-- Each entry may happen where it stands, from the beginning on.
abbrev pub IsLegalHistory : List HistoryEntry → Type 0
IsLegalHistory log = IsLegalHistoryFrom beginning log

-- The history has led to where the desk stands: to its state, its counts and its limit.
abbrev pub HasLedTo : Seen → List HistoryEntry → Type 0
HasLedTo d log = place_of_desk d ≡ replay_entries beginning log

-- The history is legal, and has led to where the desk stands.
pub record IsHistoryOf (d : Seen) (log : List HistoryEntry) : Type 0 where
  pub legal : IsLegalHistory log
  pub led : HasLedTo d log

-- The entry is possible where the history has led, and leads from there to where the desk stands.
pub record LeadsOn (log : List HistoryEntry) (h : HistoryEntry) (d : Seen) : Type 0 where
  pub next : IsNextEntry (replay_entries beginning log) h
  pub led : place_of_desk d ≡ happens (replay_entries beginning log) h

-- Each count fits 64 bits.
pub record AreSmall (counts : Counts) : Type 0 where
  pub client : counts.client < 2 ^ 64
  pub took : counts.took < 2 ^ 64
  pub returned : counts.returned < 2 ^ 64
  pub finished : counts.finished < 2 ^ 64
  pub sent : counts.sent < 2 ^ 64

-- What each desk is by its type: it stands for what its legal journal leads to; where that is empty nothing has happened; and each of its
-- counts fits 64 bits.
pub record IsDesk (d : Seen) : Type 0 where
  pub sound : IsSound d
  pub none : d.journal ≡ [] → counts_of d ≡ no_events
  pub small : AreSmall (counts_of d)
