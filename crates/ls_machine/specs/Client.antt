-- What a client's event and its answer enter into the journal.
use Rattle.ls_answers.specs.declared.ask.Ask.TheVariants.{Diagnose}
use Rattle.std.specs.Prelude.{◌≡◌, ◌≢◌, ◌++◌, ◌∷◌, [], ℕ, List, Option, Some, None, Bool, false, nat_lt, length, filter_map}
use Rattle.std.specs.Str.{chars}
use Rattle.ls_text.specs.Edits.{is_too_large}
use Rattle.ls_text.specs.Lines.{max_bytes}
use Rattle.ls_rpc.specs.Message.{IsText}
use Rattle.ls_rpc.specs.declared.message.Id.{Id}
use Rattle.ls_machine.specs.declared.event.Event.{Event}
use Rattle.ls_machine.specs.declared.event.Event.TheVariants as event
use Rattle.ls_machine.specs.declared.client.ClientEvent.{ClientEvent}
use Rattle.ls_machine.specs.declared.client.ClientEvent.TheVariants.{DidOpen, DidChange, DidClose, Request, Cancel, Say}
use Rattle.ls_machine.specs.declared.client.ClientAnswer.{ClientAnswer}
use Rattle.ls_machine.specs.declared.client.ClientAnswer.TheVariants as answer

-- the entry of an event with its answer, none for an answer of another kind
abbrev pub entry_of : ClientEvent → ClientAnswer → Option Event
entry_of (DidOpen uri label text encoding) (answer.Version version) = Some (event.Opened uri label (chars text) encoding version)
entry_of (DidChange uri label edits) (answer.Version version) = Some (event.Changed uri label edits (Some version))
entry_of (DidChange uri label edits) answer.Closed = Some (event.Changed uri label edits None)
entry_of (DidClose uri) answer.Closed = Some (event.Closed uri)
entry_of (Request id uri question links) (answer.Ticket ticket) = Some (event.Asked id uri question links ticket)
entry_of (Cancel id) (answer.Cancelled found) = Some (event.Cancelled id found)
entry_of (Say body) answer.Said = Some (event.Said body)
entry_of _ _ = None

-- The list has the entry of the event, with this answer, at its end, and nothing else has changed.
abbrev pub Notes : ClientEvent → ClientAnswer → List Event → List Event → Type 0
Notes e answer old new = (entry : Event) × (entry_of e answer ≡ Some entry) × (new ≡ old ++ entry ∷ [])

-- No client asks for findings: that is the desk's own job.
abbrev pub IsAllowed : ClientEvent → Type 0
IsAllowed (Request id uri question links) = question ≢ Diagnose
IsAllowed _ = Unit {0}

-- The event has a text or a body, as all have but a cancel by a number: its copy may need memory.
abbrev pub HoldsText : ClientEvent → Type 0
HoldsText (Cancel id) = IsText (Some id)
HoldsText _ = Unit {0}

-- whom a refusal of this event concerns: the id of a request, and nobody of all others
abbrev pub asker_of : ClientEvent → Option Id
asker_of (Request id uri question links) = Some id
asker_of _ = None

-- the event, if it is one of the client's
abbrev pub client_event : Event → Option Event
client_event (event.Opened uri label text encoding version) = Some (event.Opened uri label text encoding version)
client_event (event.Changed uri label edits version) = Some (event.Changed uri label edits version)
client_event (event.Closed uri) = Some (event.Closed uri)
client_event (event.Asked id uri ask links ticket) = Some (event.Asked id uri ask links ticket)
client_event (event.Cancelled id found) = Some (event.Cancelled id found)
client_event (event.Said body) = Some (event.Said body)
client_event _ = None

-- the client's events of a journal, each with its answer, in their order
abbrev pub client_events : List Event → List Event
client_events journal = filter_map client_event journal

-- the ticket of what left with this event, 0 for a body; none where nothing left
abbrev pub sent_ticket : Event → Option ℕ
sent_ticket (event.Sent ticket) = Some ticket
sent_ticket _ = None

-- the tickets of what left, in its order, 0 for a body
abbrev pub sent_tickets : List Event → List ℕ
sent_tickets journal = filter_map sent_ticket journal

-- ---- an event that is noted before its answer is known

-- the entry of an event with a blank answer, which is made before the board's lock is taken
abbrev pub note_of : ClientEvent → Event
note_of (DidOpen uri label text encoding) = event.Opened uri label (chars text) encoding 0
note_of (DidChange uri label edits) = event.Changed uri label edits None
note_of (DidClose uri) = event.Closed uri
note_of (Request id uri question links) = event.Asked id uri question links 0
note_of (Cancel id) = event.Cancelled id false
note_of (Say body) = event.Said body

-- that entry with its answer, once it is known
abbrev pub filled : Event → ClientAnswer → Event
filled (event.Opened uri label text encoding blank) (answer.Version version) = event.Opened uri label text encoding version
filled (event.Changed uri label edits blank) (answer.Version version) = event.Changed uri label edits (Some version)
filled (event.Asked id uri ask links blank) (answer.Ticket ticket) = event.Asked id uri ask links ticket
filled (event.Cancelled id blank) (answer.Cancelled found) = event.Cancelled id found
filled note _ = note

-- The text that an entry opens, if it opens one, isn't too large.
abbrev pub HasSmallText : Event → Type 0
HasSmallText (event.Opened uri label text encoding version) = is_too_large text ≡ false
HasSmallText entry = Unit {0}

-- It opens a text of more than 4,194,304 bytes, which no desk opens.
abbrev pub opens_too_large : ClientEvent → Bool
opens_too_large (DidOpen uri label text encoding) = nat_lt max_bytes (length text)
opens_too_large _ = false
