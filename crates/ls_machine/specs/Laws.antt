-- What holds of the state that a legal journal leads to.
use Rattle.std.specs.Prelude.{◌≡◌, ◌↔◌, ◌≤◌, ◌<◌, ◌+◌, ◌⊎◌, ◌==◌, ℕ, List, [], ◌∷◌, ◌++◌, Bool, true, Option, Some, None, find, count_by}
use Rattle.ls_rpc.specs.declared.message.Id.{Id}
use Rattle.ls_answers.specs.declared.ask.Ask.{Ask}
use Rattle.ls_answers.specs.declared.ask.Ask.TheVariants.{Diagnose}
use Rattle.ls_machine.specs.declared.event.Event.{Event}
use Rattle.ls_machine.specs.declared.event.Event.TheVariants.{Opened, Changed, Closed, Asked, Finished}
use Rattle.ls_machine.specs.declared.state.OutboxEntry.{OutboxEntry}
use Rattle.ls_machine.specs.declared.state.OutboxEntry.TheVariants.{Body, Failure, Outcome}
use Rattle.ls_machine.specs.declared.state.Request.{Request}
use Rattle.ls_machine.specs.declared.state.Waiting.{Waiting}
use Rattle.ls_machine.specs.Machine.{step, document, document_of, measured, asks_with, ticket_of}
use Rattle.ls_machine.specs.Client.{sent_tickets}
use Rattle.ls_machine.specs.Journal.{replay, IsLegal}
use Rattle.ls_machine.specs.Same.{is_for}
use Rattle.ls_answers.specs.Told.{Told}

-- The job is for findings: nobody asked for it, and its question is what is found in a text.
abbrev pub IsForFindings : Waiting → Type 0
IsForFindings w = (w.request ≡ None) × (w.ask ≡ Diagnose)

-- The event made this job: it is the request with the job's id, links, document, question and ticket, or, where the job is for findings,
-- the open or the change of its document with its label and its version.
abbrev pub IsMadeBy : Event → Waiting → Type 0
IsMadeBy (Asked id uri question links ticket) w = (w.request ≡ Some (record { id = id; links = links })) × (w.uri ≡ uri) × (w.ask ≡ question) × (w.ticket ≡ ticket)
IsMadeBy (Opened uri label text encoding version) w = IsForFindings w × (w.uri ≡ uri) × (w.label ≡ label) × (w.version ≡ version)
IsMadeBy (Changed uri label edits version) w = IsForFindings w × (w.uri ≡ uri) × (w.label ≡ label) × (Some w.version ≡ version)
IsMadeBy _ w = ⊥

-- One of the events of a journal made just this job (`IsMadeBy`) and gave it its ticket. Behind that event the job's document was open at
-- the job's version, with its label, its text, and what positions count in it.
pub record WasCurrent (journal : List Event) (w : Waiting) : Type 0 where
  pub before : List Event
  pub event : Event
  pub later : List Event
  pub journal_is : journal ≡ before ++ event ∷ later
  pub made_by : IsMadeBy event w
  pub ticket_is : (replay before).next_ticket ≡ w.ticket
  pub given : (step (replay before) event).next_ticket ≡ w.ticket + 1
  pub document_is : document_of w.uri (step (replay before) event).documents ≡ Some (document w.uri w.version w.label (measured w.encoding w.text))

-- None of these jobs waits for a request with the same id.
abbrev pub IsAlone : Option Request → List Waiting → Type 0
IsAlone None waiting = Unit {0}
IsAlone (Some r) waiting = find (asks_with r.id) waiting ≡ None

-- Each job's ticket is at least `low` and greater than those before it, and all are below `high`. None behind it has the same id. Its text
-- was that of its document when it was asked.
unfoldable pub WereCurrentInOrder : List Event → ℕ → List Waiting → ℕ → Type 0
WereCurrentInOrder journal low [] high = low ≤ high
WereCurrentInOrder journal low (w ∷ ws) high = (low ≤ w.ticket) × IsAlone w.request ws × WasCurrent journal w × WereCurrentInOrder journal (w.ticket + 1) ws high

-- One of the events of a journal is the request with this id that got this ticket.
pub record WasAsked (journal : List Event) (ticket : ℕ) (id : Id) : Type 0 where
  pub before : List Event
  pub uri : List ℕ
  pub question : Ask
  pub links : Bool
  pub later : List Event
  pub journal_is : journal ≡ before ++ Asked id uri question links ticket ∷ later

-- The text of an outcome was that of its document when it was asked about, and a failure has the ticket and the id of a request of the
-- journal. Of a body nothing is said.
abbrev pub WasEntryCurrent : List Event → OutboxEntry → Type 0
WasEntryCurrent journal (Body body) = Unit {0}
WasEntryCurrent journal (Failure ticket id code) = WasAsked journal ticket id
WasEntryCurrent journal (Outcome w) = WasCurrent journal w

-- So it is of each of these entries.
unfoldable pub WereEntriesCurrent : List Event → List OutboxEntry → Type 0
WereEntriesCurrent journal [] = Unit {0}
WereEntriesCurrent journal (e ∷ es) = WasEntryCurrent journal e × WereEntriesCurrent journal es

-- In the state of this journal the tickets of waiting jobs rise from 1 to below the next one, so that each stands once, and so does each
-- id; the text of each job, and of each unsent outcome, was current when it was asked about.
pub record IsOrdered (journal : List Event) : Type 0 where
  pub waiting : WereCurrentInOrder journal 1 (replay journal).waiting (replay journal).next_ticket
  pub unsent : WereEntriesCurrent journal (replay journal).unsent

-- So it is in the state of every legal journal, whoever wrote it.
abbrev pub LegalJournalsAreOrdered : Type 0
LegalJournalsAreOrdered = (most : ℕ) (journal : List Event) → IsLegal most journal → IsOrdered journal

-- ---- nothing is lost, and nothing is said twice

-- The job has this ticket.
abbrev pub has_ticket : ℕ → Waiting → Bool
has_ticket ticket w = w.ticket == ticket

-- The entry came from the job with this ticket.
abbrev pub is_told_of : ℕ → OutboxEntry → Bool
is_told_of ticket e = ticket_of e == ticket

-- how often a ticket stands among the jobs that wait, what was sent, and what isn't sent yet
abbrev pub places : List Event → ℕ → ℕ
places journal ticket =
    count_by (has_ticket ticket) (replay journal).waiting
    + count_by (λ sent. sent == ticket) (sent_tickets journal)
    + count_by (is_told_of ticket) (replay journal).unsent

-- The event ends a job of findings, of which nothing is said then: a change or a close of its document, or a run of it in which memory was
-- refused.
abbrev pub EndsUntold : Event → Waiting → Type 0
EndsUntold (Changed uri label edits version) w = w.uri ≡ uri
EndsUntold (Closed uri) w = w.uri ≡ uri
EndsUntold (Finished ticket failed) w = (w.ticket ≡ ticket) × (failed ≡ true)
EndsUntold _ w = ⊥

-- A job of findings with this ticket waited, and one of the events ended it so.
pub record WasLetGo (journal : List Event) (ticket : ℕ) : Type 0 where
  pub before : List Event
  pub event : Event
  pub later : List Event
  pub journal_is : journal ≡ before ++ event ∷ later
  pub job : Waiting
  pub waited : find (has_ticket ticket) (replay before).waiting ≡ Some job
  pub findings : IsForFindings job
  pub ends : EndsUntold event job

-- A ticket stands at one place: its job waits, or it has one entry, sent or not. Or it stands at none, and its job was let go.
abbrev pub IsKeptOnce : List Event → ℕ → Type 0
IsKeptOnce journal ticket = (places journal ticket ≡ 1) ⊎ ((places journal ticket ≡ 0) × WasLetGo journal ticket)

-- So it is with each ticket that was given in a legal journal.
abbrev pub TicketsAreKeptOnce : Type 0
TicketsAreKeptOnce = (most : ℕ) (journal : List Event) → IsLegal most journal
    → (ticket : ℕ) → 0 < ticket → ticket < (replay journal).next_ticket → IsKeptOnce journal ticket

-- The ticket of a request always stands at one place: it is never let go.
abbrev pub RequestsAreKeptOnce : Type 0
RequestsAreKeptOnce = (most : ℕ) (before later : List Event) (id : Id) (uri : List ℕ) (question : Ask) (links : Bool) (ticket : ℕ)
    → IsLegal most (before ++ Asked id uri question links ticket ∷ later)
    → places (before ++ Asked id uri question links ticket ∷ later) ticket ≡ 1

-- ---- runs

-- The run is one of the job's text, with its encoding and its question.
pub record IsRunOf (w : Waiting) (done : Told) : Type 0 where
  pub encoding : w.encoding ≡ done.encoding
  pub text : w.text ≡ done.text
  pub ask : w.ask ≡ done.ask

-- A run is taken for a job's (`is_for`) exactly where it is one.
abbrev pub RunsAreKnown : Type 0
RunsAreKnown = (w : Waiting) (done : Told) → (is_for (Some w) done ≡ true) ↔ IsRunOf w done
