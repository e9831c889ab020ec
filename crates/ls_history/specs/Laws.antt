-- What holds of every history.
use Rattle.std.specs.Prelude.{◌≡◌, ◌≢◌, ◌⊎◌, ◌++◌, ◌∷◌, [], ℕ, List, Result, Ok, Err, Option, Some, None, filter_map, is_some, length, true}
use Rattle.ls_machine.specs.Counts.{counted_with, no_events}
use Rattle.ls_machine.specs.Journal as journal
use Rattle.ls_machine.specs.declared.client.ClientAnswer.{ClientAnswer}
use Rattle.ls_machine.specs.declared.client.ClientEvent.{ClientEvent}
use Rattle.ls_machine.specs.declared.event.DeskFault.{DeskFault}
use Rattle.ls_machine.specs.declared.event.DeskFault.TheVariants.{Memory}
use Rattle.ls_desk.specs.Door.{Admits, client_fault}
use Rattle.ls_desk.specs.Faults.{Refuses}
use Rattle.ls_desk.specs.Stands.{Enters, IsSound, Seen, Sends, counts_of}
use Rattle.ls_history.specs.declared.history_entry.HistoryEntry.{HistoryEntry}
use Rattle.ls_history.specs.declared.history_entry.HistoryEntry.TheVariants.{Began, Heard, Left, Stopped, Worked}
use Rattle.ls_history.specs.Ends.{is_over, stop_of}
use Rattle.ls_history.specs.History.{IsHistoryOf, IsLegalHistory, IsReply, is_workers, replay_entries}
use Rattle.ls_history.specs.Places.{Place, beginning}
use Rattle.ls_history.specs.Told.{LieBeside, events_of, heard_of, outs_of}

-- ---- a history is a run of the machine

-- The machine's events of a history are a legal journal from the start of a session, which leads where the history does.
pub record IsJournal (most : ℕ) (log : List HistoryEntry) (place : Place) : Type 0 where
  pub legal : journal.IsLegal most (events_of log)
  pub state_is : journal.replay (events_of log) ≡ place.state
  pub counts_are : counted_with no_events (events_of log) ≡ place.counts

-- So it is of each legal history, within the limit with which it began, over any number of checkpoints.
abbrev pub HistoriesAreJournals : Type 0
HistoriesAreJournals = (most : ℕ) (log : List HistoryEntry) → IsLegalHistory log → (replay_entries beginning log).limit ≡ Some most → IsJournal most log (replay_entries beginning log)

-- ---- what a desk did has a history

-- A desk did what the entry says. Memory may have been refused before it was asked.
abbrev pub IsDone : HistoryEntry → Seen → Seen → Type 0
IsDone (Began most) old new = ⊥
IsDone (Heard e (Ok answer)) old new = Admits e answer old new
IsDone (Heard e (Err fault)) old new = Refuses (client_fault old e) old new fault ⊎ ((fault ≡ Memory) × (new ≡ old))
IsDone (Left out) old new = Sends old new out
IsDone (Worked event) old new = Enters old new event × (is_workers event ≡ true)
IsDone (Stopped stop) old new = new ≡ old

-- There is a history of a desk on which nothing has happened: it began, with the desk's limit.
abbrev pub HistoriesBegin : Type 0
HistoriesBegin = (d : Seen) → IsSound d → d.journal ≡ [] → counts_of d ≡ no_events → IsHistoryOf d (Began d.max_events ∷ [])

-- And then of whatever the desk did there is one, with an entry more each time.
abbrev pub HistoriesGoOn : Type 0
HistoriesGoOn = (old new : Seen) (log : List HistoryEntry) (h : HistoryEntry) → IsHistoryOf old log → IsSound new → IsDone h old new → IsHistoryOf new (log ++ h ∷ [])

-- ---- a history says in one way what was heard and what was sent

-- Where a history has led, an event has one reply, if memory isn't refused.
abbrev pub RepliesAreUnique : Type 0
RepliesAreUnique =
    (p : Place) (e : ClientEvent) (a b : Result ClientAnswer DeskFault) → IsReply p e a → IsReply p e b → a ≢ Err Memory → b ≢ Err Memory → a ≡ b

-- the answer that an event had; none where it was refused
abbrev pub answer_of_one : ClientEvent × Result ClientAnswer DeskFault → Option ClientAnswer
answer_of_one (e, Ok answer) = Some answer
answer_of_one (e, Err fault) = None

-- As many of the client's events had an answer, and as many replies left, as the machine counts.
abbrev pub HistoriesCount : Type 0
HistoriesCount =
    (log : List HistoryEntry) → IsLegalHistory log → (length (filter_map answer_of_one (heard_of log)) ≡ (replay_entries beginning log).counts.client) × (length (outs_of log) ≡ (replay_entries beginning log).counts.sent)

-- Two beginnings of one history that have as many of a kind have the same of that kind: of the client's events, or of the replies.
abbrev pub BeginningsAgree : Type 0
BeginningsAgree =
    (xs ys : List HistoryEntry) → LieBeside xs ys → (length (heard_of ys) ≡ length (heard_of xs) → heard_of ys ≡ heard_of xs) × (length (outs_of ys) ≡ length (outs_of xs) → outs_of ys ≡ outs_of xs)

-- ---- a board that was asked to end stays so

-- A board that has ended has ended by all that comes later, and the end at once is final.
abbrev pub EndsStay : Type 0
EndsStay =
    (xs ys : List HistoryEntry) → (is_some (stop_of xs) ≡ true → is_some (stop_of (xs ++ ys)) ≡ true) × (is_over (stop_of xs) ≡ true → stop_of (xs ++ ys) ≡ stop_of xs)
