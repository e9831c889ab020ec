-- The seats that a board is closed with.
use Rattle.std.specs.Prelude.{◌≡◌, ◌<◌, ◌-◌, ◌==◌, ◌↔◌, ◌++◌, ◌∷◌, ℕ, List, [], All, length, Bool, true, false, Option, Some, None, Result, Ok, count_by, if◌then◌else◌, slice_get, vec_len, vec_capacity}
use Rattle.std.specs.List.{list_all}
use Rattle.ls_machine.specs.declared.event.Event.{Event}
use Rattle.ls_desk.specs.Anew.{base_after, journal_after}
use Rattle.ls_desk.specs.Stands.{Seen, counts_of, fresh, is_long}
use Rattle.ls_machine.specs.Client.{HasSmallText, Notes, client_events, entry_of, note_of, opens_too_large, sent_tickets}
use Rattle.ls_machine.specs.declared.client.ClientEvent.{ClientEvent}
use Rattle.ls_machine.specs.declared.client.ClientAnswer.{ClientAnswer}
use Rattle.ls_machine.specs.declared.event.DeskFault.{DeskFault}
use Rattle.ls_machine.specs.declared.event.Out.{Out}
use Rattle.ls_history.specs.declared.history_entry.HistoryEntry.{HistoryEntry}
use Rattle.ls_history.specs.declared.history_entry.HistoryEntry.TheVariants as entry
use Rattle.ls_history.specs.History.{HasLedTo, IsHistoryOf, IsLegalHistory}
use Rattle.ls_history.specs.Told.{heard_of, outs_of}
use Rattle.ls_workers.specs.Jobs.{HasLimits}
use Rattle.ls_workers.specs.declared.ended.Ended.{Ended}
use Rattle.ls_workers.specs.declared.audit_log.AuditLog as held
use Rattle.ls_workers.specs.declared.board_state.SeatFault.{SeatFault}
use Rattle.ls_workers.specs.declared.board_state.SeatFault.TheVariants.{SeatMissing, Strayed}

-- The workers' seats, by what their mark and their number are: each has the board's mark, there are as many as it has workers, and each
-- number below that is there once.
pub record AreAll {X : Type 0} (mark_of : X → ℕ) (number_of : X → ℕ) (mark workers : ℕ) (seats : List X) : Type 0 where
  pub marks : list_all (λ seat. mark_of seat == mark) seats ≡ true
  pub count_is : length seats ≡ workers
  pub numbers : (number : ℕ) → number < workers → count_by (λ seat. number_of seat == number) seats ≡ 1

-- The client's events of a journal are this list, and the tickets that it sent, 0 for a body, are these.
abbrev pub Agrees : List Event → List Event → List ℕ → Type 0
Agrees journal list tickets = (client_events journal ≡ list) × (sent_tickets journal ≡ tickets)

-- what the writer's seat has of the tickets since the last checkpoint: nothing where it has been given no reply since, as the number of
-- checkpoints says that it had seen then
abbrev pub since : {X : Type 0} → ℕ → ℕ → List X → List X
since checkpoints seen list = if seen == checkpoints then list else []

-- The last entry of the journal is the event with its answer.
abbrev pub IsLast : ClientEvent → ClientAnswer → List Event → Type 0
IsLast e answer journal = slice_get journal (length journal - 1) ≡ entry_of e answer

-- A list that a checkpoint ended is the client's events of the journal that ended with it, as far as both are there: what was compared has
-- gone, from the end.
abbrev pub AreSame : Ended → Type 0
AreSame ended = client_events ended.journal.items ≡ ended.list.items

-- what a client's seat knows: the events since the last checkpoint with their answers, the number of checkpoints, whether a difference was
-- found, and what of earlier lists and of their journals isn't compared yet
pub record AuditLog : Type 0 where
  pub list : List Event
  pub checkpoints : ℕ
  pub strayed : Bool
  pub ended : List Ended

-- nothing yet
abbrev pub logged_nothing : AuditLog
logged_nothing = record { list = []; checkpoints = 0; strayed = false; ended = [] }

-- the same, of what a seat holds
abbrev pub logged_by : held.AuditLog → AuditLog
logged_by log = record { list = log.list.items; checkpoints = log.checkpoints; strayed = log.strayed; ended = log.ended.items }

-- No difference was found, and there is none in what isn't compared yet.
abbrev pub HasAgreed : AuditLog → Type 0
HasAgreed log = (log.strayed ≡ false) × All AreSame log.ended

-- Nothing has come to a seat, though some of what had ended may have been compared: there is a difference exactly where there was.
pub record KnowsTheSame (old new : AuditLog) : Type 0 where
  pub list : new.list ≡ old.list
  pub checkpoints : new.checkpoints ≡ old.checkpoints
  pub agreed : HasAgreed new ↔ HasAgreed old

-- It is the note of the event: its entry, the answer aside. An event whose text is too large for any desk has none.
abbrev pub IsNoteOf : ClientEvent → Option Event → Type 0
IsNoteOf e (Some note) = (note ≡ note_of e) × (opens_too_large e ≡ false) × HasSmallText note
IsNoteOf e None = opens_too_large e ≡ true

-- An entry needs no memory any more, whether its event makes a checkpoint or not.
pub record HasRoomForEntry (log : held.AuditLog) : Type 0 where
  pub list : vec_len log.list < vec_capacity log.list
  pub spare : vec_len log.spare < vec_capacity log.spare
  pub ended : vec_len log.ended < vec_capacity log.ended

-- An event with its answer comes to the journal and to the seat's list. Where the event makes a checkpoint, list and journal begin anew
-- with it. It is a difference where the journal's last entry is another, or where the list that ends isn't the client's events of the
-- journal that ends.
pub record Logs (e : ClientEvent) (answer : ClientAnswer) (before after : Seen) (old new : AuditLog) : Type 0 where
  pub journal : Notes e answer (journal_after (fresh before) before.journal) after.journal
  pub base : after.base ≡ base_after (fresh before) (counts_of before) before.base
  pub list : Notes e answer (if is_long before then [] else old.list) new.list
  pub checkpoints : new.checkpoints ≡ (if is_long before then after.base.checkpoints else old.checkpoints)
  pub agreed : HasAgreed new ↔ (HasAgreed old × IsLast e answer after.journal × (is_long before ≡ true → client_events before.journal ≡ old.list))

-- The same, by the history that the seat has seen then. It has led to the desk after the event, and up to its last entry, which is the
-- event's, it had led to the desk before, which has these limits.
pub record IsLogged (e : ClientEvent) (answer : ClientAnswer) (journal events : ℕ) (old new : AuditLog) (log : List HistoryEntry) : Type 0 where
  pub before : Seen
  pub after : Seen
  pub earlier : List HistoryEntry
  pub log_is : log ≡ earlier ++ entry.Heard e (Ok answer) ∷ []
  pub led_before : HasLedTo before earlier
  pub led_after : HasLedTo after log
  pub limits : HasLimits journal events before
  pub logs : Logs e answer before after old new

-- What the seats know is what the desk's journal has: the client's events and the tickets since the last checkpoint; and there have been as
-- many checkpoints as the client's seat has seen.
abbrev pub AgreesAll : Seen → AuditLog → ℕ → List ℕ → Type 0
AgreesAll desk client seen tickets =
    Agrees desk.journal client.list (since desk.base.checkpoints seen tickets) × (desk.base.checkpoints ≡ client.checkpoints)

-- One legal history led to the desk. It has these events of the client, each with its answer or its refusal, and these replies, and no
-- others.
abbrev pub HasHistory : List (ClientEvent × Result ClientAnswer DeskFault) → List Out → Seen → Type 0
HasHistory heard outs desk = (log : List HistoryEntry) × IsHistoryOf desk log × (heard_of log ≡ heard) × (outs_of log ≡ outs)

-- One legal history has these events of the client, each with its answer or its refusal, and these replies, and no others, wherever it has
-- led.
abbrev pub HaveHistory : List (ClientEvent × Result ClientAnswer DeskFault) → List Out → Type 0
HaveHistory heard outs = (log : List HistoryEntry) × IsLegalHistory log × (heard_of log ≡ heard) × (outs_of log ≡ outs)

-- Why a board isn't closed. `SeatMissing`: the seats aren't all its own. `Strayed`: they are, the desk that it carries has their counts,
-- and a difference was found or is there in what had ended, or what the seats know isn't what its journal has now.
abbrev pub HasCause : Type 0 → (Seen → Type 0) → AuditLog → ℕ → List ℕ → SeatFault → Type 0
HasCause AreOwn HasCounts client seen tickets SeatMissing = AreOwn → ⊥
HasCause AreOwn HasCounts client seen tickets (Strayed desk) = AreOwn × HasCounts desk × (HasAgreed client × AgreesAll desk client seen tickets → ⊥)
