-- The desk's machine: a state, the events, where each is possible, and what it does. What requests are answered, and with which codes, is
-- LSP 3.17's ("Response Message" and the sections of the methods).
use Rattle.std.specs.Prelude.{◌≡◌, ◌<◌, ◌+◌, ℕ, ℤ, pos, neg_ℤ, List, [], ◌∷◌, ◌++◌, length, filter, Bool, true, false, not, ◌&&◌, ◌==◌, bytes_eq, is_some, Option, Some, None, find, count_by, if◌then◌else◌}
use Rattle.std.specs.List.{flat_map, list_any}
use Rattle.std.specs.Option.{option_map}
use Rattle.ls_text.specs.Edits.{edited_all, is_too_large}
use Rattle.ls_text.specs.Lines.{units}
use Rattle.ls_text.specs.Positions.{Measured}
use Rattle.ls_text.specs.declared.edit.Edit.{Edit}
use Rattle.ls_text.specs.declared.position.Encoding.{Encoding}
use Rattle.ls_rpc.specs.declared.message.Id.{Id}
use Rattle.ls_answers.specs.declared.ask.Ask.{Ask}
use Rattle.ls_answers.specs.declared.ask.Ask.TheVariants.{Rename, Action, Diagnose}
use Rattle.ls_machine.specs.Same.{id_eq}
use Rattle.ls_machine.specs.declared.state.Document.{Document}
use Rattle.ls_machine.specs.declared.state.Request.{Request}
use Rattle.ls_machine.specs.declared.state.Waiting.{Waiting}
use Rattle.ls_machine.specs.declared.state.State.{State}
use Rattle.ls_machine.specs.declared.state.OutboxEntry.{OutboxEntry}
use Rattle.ls_machine.specs.declared.state.OutboxEntry.TheVariants.{Body, Failure, Outcome}
use Rattle.ls_machine.specs.declared.event.Event.{Event}
use Rattle.ls_machine.specs.declared.event.Event.TheVariants.{Opened, Changed, Closed, Asked, Cancelled, Said, Took, Returned, Finished, Sent}

-- nothing is open, nothing waits, nothing is unsent, and the next version and ticket are 1
abbrev pub start : State
start = record { documents = []; waiting = []; unsent = []; next_version = 1; next_ticket = 1 }

-- ---- documents

-- The document has this uri, byte for byte.
abbrev pub is_named : List ℕ → Document → Bool
is_named uri d = bytes_eq d.uri uri

-- the open document of this uri
abbrev pub document_of : List ℕ → List Document → Option Document
document_of uri documents = find (is_named uri) documents

-- A document of this uri is open.
abbrev pub is_open : List ℕ → List Document → Bool
is_open uri documents = is_some (document_of uri documents)

-- all documents but that of this uri
abbrev pub others : List ℕ → List Document → List Document
others uri documents = filter (λ d. not (is_named uri d)) documents

-- an open document: its uri, its version, the client's number of it (the label), its text, and what positions in it count
abbrev pub document : List ℕ → ℕ → ℤ → Measured → Document
document uri version label m = record { uri = uri; version = version; label = label; text = m.text; encoding = m.encoding }

-- a text, with what positions in it count
abbrev pub measured : Encoding → List ℕ → Measured
measured encoding text = record { text = text; encoding = encoding }

-- the text of a document after edits, each on the text that the ones before it left; none where one of these texts would be too large.
-- Positions count what they did when the document was opened.
abbrev pub edited_at : Option Document → List Edit → Option Measured
edited_at None edits = None
edited_at (Some d) edits = option_map (measured d.encoding) (edited_all (units d.encoding) d.text edits)

-- ---- waiting jobs

-- The request has this id.
abbrev pub is_for_id : Id → Option Request → Bool
is_for_id id None = false
is_for_id id (Some r) = id_eq r.id id

-- The job is a request with this id.
abbrev pub asks_with : Id → Waiting → Bool
asks_with id w = is_for_id id w.request

-- A request with this id waits, so that the id is in use.
abbrev pub id_waits : Id → List Waiting → Bool
id_waits id waiting = is_some (find (asks_with id) waiting)

-- A job with this ticket waits, queued or taken.
abbrev pub waits : ℕ → List Waiting → Bool
waits ticket waiting = list_any (λ w. w.ticket == ticket) waiting

-- how many of the jobs are requests; those for findings are none
abbrev pub requests : List Waiting → ℕ
requests waiting = count_by (λ w. is_some w.request) waiting

-- No worker has the job.
abbrev pub is_queued : Waiting → Bool
is_queued w = not w.taken

-- The job has this ticket, and a worker has it.
abbrev pub is_held : ℕ → Waiting → Bool
is_held ticket w = (w.ticket == ticket) && w.taken

-- the jobs, but the first of which `p` holds made another one by `f`
abbrev pub on_first : (Waiting → Bool) → (Waiting → Waiting) → List Waiting → List Waiting
on_first p f [] = []
on_first p f (w ∷ ws) = if p w then f w ∷ ws else w ∷ on_first p f ws

-- the jobs without the first of which `p` holds
abbrev pub without_first_job : (Waiting → Bool) → List Waiting → List Waiting
without_first_job p [] = []
without_first_job p (w ∷ ws) = if p w then ws else w ∷ without_first_job p ws

-- the same job, which a worker has, or which is queued
abbrev pub with_taken : Bool → Waiting → Waiting
with_taken taken w = record w { taken = taken }

-- the job for the findings of a new text: nobody's request, and queued
abbrev pub diagnosis : ℕ → List ℕ → ℕ → ℤ → Measured → Waiting
diagnosis ticket uri version label m = record {
  ticket = ticket;
  ask = Diagnose;
  uri = uri;
  version = version;
  label = label;
  text = m.text;
  encoding = m.encoding;
  request = None;
  taken = false;
}

-- the job of a request about a document: for its version and its text as they are now, and queued
abbrev pub asked : ℕ → Id → Ask → Bool → Document → Waiting
asked ticket id ask links d = record {
  ticket = ticket;
  ask = ask;
  uri = d.uri;
  version = d.version;
  label = d.label;
  text = d.text;
  encoding = d.encoding;
  request = Some (record { id = id; links = links });
  taken = false;
}

-- ---- what an end is answered

-- the error with this code for whoever asked; nothing where nobody did
abbrev pub told_to : ℕ → ℤ → Option Request → List OutboxEntry
told_to ticket code None = []
told_to ticket code (Some r) = Failure ticket r.id code ∷ []

-- the error with this code for the request of a job that ends; nothing where it was for findings, which nobody asked for
abbrev pub told_end : ℤ → Waiting → List OutboxEntry
told_end code w = told_to w.ticket code w.request

-- the code of a request that a change or a close of its document ends: -32801, ContentModified (LSP 3.17, "ErrorCodes")
abbrev pub content_modified : ℤ
content_modified = neg_ℤ (pos 32801)

-- the code of a request that was cancelled while it waited: -32800, RequestCancelled (LSP 3.17, "ErrorCodes")
abbrev pub request_cancelled : ℤ
request_cancelled = neg_ℤ (pos 32800)

-- the code of a request in whose job memory was refused: -32603, Internal error (JSON-RPC 2.0, section 5.1)
abbrev pub internal_error : ℤ
internal_error = neg_ℤ (pos 32603)

-- A change or a close of their document ends these questions: renames and code actions, whose answers would be edits of a text that is gone
-- and which are answered -32801, and findings, of which nothing is said and which are asked for anew. All others go on for the text that
-- they were asked about.
abbrev pub ends_by_change : Ask → Bool
ends_by_change (Rename at name) = true
ends_by_change (Action range) = true
ends_by_change Diagnose = true
ends_by_change _ = false

-- The job is about the document of this uri, and a change or a close of that ends it.
abbrev pub is_ended : List ℕ → Waiting → Bool
is_ended uri w = bytes_eq w.uri uri && ends_by_change w.ask

-- what a change or a close of the document of this uri answers one job: -32801 where it ends it
abbrev pub end_of : List ℕ → Waiting → List OutboxEntry
end_of uri w = if is_ended uri w then told_end content_modified w else []

-- what it answers all jobs, in the order of their tickets
abbrev pub ends : List ℕ → List Waiting → List OutboxEntry
ends uri waiting = flat_map (end_of uri) waiting

-- the jobs that go on behind it
abbrev pub going_on : List ℕ → List Waiting → List Waiting
going_on uri waiting = filter (λ w. not (is_ended uri w)) waiting

-- what a job leaves that has run: its outcome, or -32603 for its request where memory was refused in it
abbrev pub left_by : Bool → Waiting → List OutboxEntry
left_by failed w = if failed then told_end internal_error w else (Outcome w ∷ [])

-- the same of the job that was found, if one was
abbrev pub left_at : Bool → Option Waiting → List OutboxEntry
left_at failed None = []
left_at failed (Some w) = left_by failed w

-- the error with this code for the job that was found, if one was
abbrev pub told_if_found : ℤ → Option Waiting → List OutboxEntry
told_if_found code None = []
told_if_found code (Some w) = told_end code w

-- the entries without the first
abbrev pub rest : List OutboxEntry → List OutboxEntry
rest [] = []
rest (e ∷ es) = es

-- ---- events

-- A text becomes that of its document. It gets the next version, and a job for its findings with the next ticket. Where there is no text
-- nothing happens.
abbrev pub put_text : State → List ℕ → ℤ → Option Measured → State
put_text s uri label None = s
put_text s uri label (Some m) = record s {
  documents = s.documents ++ document uri s.next_version label m ∷ [];
  waiting = s.waiting ++ diagnosis s.next_ticket uri s.next_version label m ∷ [];
  next_version = s.next_version + 1;
  next_ticket = s.next_ticket + 1;
}

-- A document goes, with the jobs that this ends.
abbrev pub close_text : State → List ℕ → State
close_text s uri = record s {
  documents = others uri s.documents;
  waiting = going_on uri s.waiting;
  unsent = s.unsent ++ ends uri s.waiting;
}

-- A request gets the next ticket, and waits with the text and the encoding that its document has now.
abbrev pub ask_at : State → Id → Option Document → Ask → Bool → State
ask_at s id None ask links = s
ask_at s id (Some d) ask links = record s {
  waiting = s.waiting ++ asked s.next_ticket id ask links d ∷ [];
  next_ticket = s.next_ticket + 1;
}

-- What an event does. A change closes the document and opens it again with the new text, or leaves it closed where one of its texts is too
-- large. A worker takes the first queued job. What leaves is the first unsent entry.
unfoldable pub step : State → Event → State
step s (Opened uri label text encoding version) = put_text s uri label (Some (measured encoding text))
step s (Changed uri label edits version) = put_text (close_text s uri) uri label (edited_at (document_of uri s.documents) edits)
step s (Closed uri) = close_text s uri
step s (Asked id uri ask links ticket) = ask_at s id (document_of uri s.documents) ask links
step s (Cancelled id found) = record s {
  waiting = without_first_job (asks_with id) s.waiting;
  unsent = s.unsent ++ told_if_found request_cancelled (find (asks_with id) s.waiting);
}
step s (Said body) = record s { unsent = s.unsent ++ Body body ∷ [] }
step s (Took worker) = record s { waiting = on_first is_queued (with_taken true) s.waiting }
step s (Returned ticket) = record s { waiting = on_first (is_held ticket) (with_taken false) s.waiting }
step s (Finished ticket failed) = record s {
  waiting = without_first_job (is_held ticket) s.waiting;
  unsent = s.unsent ++ left_at failed (find (is_held ticket) s.waiting);
}
step s (Sent ticket) = record s { unsent = rest s.unsent }

-- the ticket of the job that an entry came from, 0 for a body
abbrev pub ticket_of : OutboxEntry → ℕ
ticket_of (Body body) = 0
ticket_of (Failure ticket id code) = ticket
ticket_of (Outcome w) = w.ticket

-- the ticket of the first entry, if there is one
abbrev pub first_ticket : List OutboxEntry → Option ℕ
first_ticket [] = None
first_ticket (e ∷ es) = Some (ticket_of e)

-- this version, where something is there
abbrev pub version_if : {A : Type 0} → ℕ → Option A → Option ℕ
version_if version None = None
version_if version (Some x) = Some version

-- Where an event is possible, with the answer that a client's event has there. A document is opened where none of its uri is open, fewer
-- than 256 are, and its text isn't too large. A request waits where its document is open, fewer than 1,024 requests wait, and none with its
-- id does. A cancel and a body are always possible.
unfoldable pub IsPossible : State → Event → Type 0
IsPossible s (Opened uri label text encoding version) =
    (is_open uri s.documents ≡ false) × (length s.documents < 256) × (is_too_large text ≡ false) × (version ≡ s.next_version)
IsPossible s (Changed uri label edits version) =
    (is_open uri s.documents ≡ true) × (version ≡ version_if s.next_version (edited_at (document_of uri s.documents) edits))
IsPossible s (Closed uri) = is_open uri s.documents ≡ true
IsPossible s (Asked id uri ask links ticket) =
    (is_open uri s.documents ≡ true) × (requests s.waiting < 1024) × (id_waits id s.waiting ≡ false) × (ticket ≡ s.next_ticket)
IsPossible s (Cancelled id found) = found ≡ id_waits id s.waiting
IsPossible s (Said body) = Unit {0}
IsPossible s (Took worker) = is_some (find is_queued s.waiting) ≡ true
IsPossible s (Returned ticket) = is_some (find (is_held ticket) s.waiting) ≡ true
IsPossible s (Finished ticket failed) = is_some (find (is_held ticket) s.waiting) ≡ true
IsPossible s (Sent ticket) = first_ticket s.unsent ≡ Some ticket
