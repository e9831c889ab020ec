-- Which refusal comes first. Each call has a word here: the first cause for which it is refused, in the order of its checks, and none where
-- nothing but memory can stand against it. A call needs a place for its event, and one for each reply that it leaves.
use Rattle.std.specs.Prelude.{◌≡◌, ◌+◌, ◌⊎◌, ℕ, List, length, Bool, not, ◌&&◌, Option, Some, None, nat_le, nat_lt, find, is_none, is_some, if◌then◌else◌}
use Rattle.std.specs.Arc.{arc_value}
use Rattle.ls_answers.specs.Told.{Told}
use Rattle.ls_answers.specs.declared.job.Job.{Job}
use Rattle.ls_rpc.specs.declared.message.Id.{Id}
use Rattle.ls_text.specs.Lines.{max_bytes}
use Rattle.ls_machine.specs.Same.{is_for}
use Rattle.ls_machine.specs.Counts.{total}
use Rattle.ls_machine.specs.declared.state.Waiting.{Waiting}
use Rattle.ls_machine.specs.declared.state.Request.{Request}
use Rattle.ls_machine.specs.declared.event.Kept.{Kept}
use Rattle.ls_machine.specs.declared.event.Kept.TheVariants as kept
use Rattle.ls_machine.specs.declared.event.DeskFault.{DeskFault}
use Rattle.ls_machine.specs.declared.event.DeskFault.TheVariants.{NotOpen, AlreadyOpen, TooManyDocuments, TooManyWaiting, IdInUse, TooLarge, UnknownTicket, OtherText, SessionFull, Memory}
use Rattle.ls_machine.specs.Machine.{is_open, requests, id_waits, is_held, is_queued, left_at, told_if_found, ends, asks_with, request_cancelled}
use Rattle.ls_machine.specs.declared.event.Event.{Event}
use Rattle.ls_machine.specs.declared.event.Event.TheVariants.{Took}
use Rattle.ls_desk.specs.Stands.{Seen, counts_of, state_of, Enters}

-- a cause where it holds, and else the next ones
abbrev pub or_else : Bool → DeskFault → Option DeskFault → Option DeskFault
or_else b fault next = if b then Some fault else next

-- The events of the session and the unsent entries leave no room for this many more.
abbrev pub is_session_full : Seen → ℕ → Bool
is_session_full d need = nat_lt d.max_events (total (counts_of d) + length (state_of d).unsent + need)

-- the session is full, where there is no room for this many more
abbrev pub full_fault : Seen → ℕ → Option DeskFault
full_fault d need = or_else (is_session_full d need) SessionFull None

-- of an open whose text is made already, and isn't too large then: the uri is open, 256 documents are, or the session is full
abbrev pub open_shared_fault : Seen → List ℕ → Option DeskFault
open_shared_fault d uri =
    or_else (is_open uri (state_of d).documents) AlreadyOpen
    (or_else (nat_le 256 (length (state_of d).documents)) TooManyDocuments (full_fault d 1))

-- of an open whose text has so many bytes: the same, and behind the first two that it has more than 4,194,304
abbrev pub sized_open_fault : Seen → List ℕ → ℕ → Option DeskFault
sized_open_fault d uri bytes =
    or_else (is_open uri (state_of d).documents) AlreadyOpen
    (or_else (nat_le 256 (length (state_of d).documents)) TooManyDocuments
    (or_else (nat_lt max_bytes bytes) TooLarge (full_fault d 1)))

-- of an open by its text, in UTF-8
abbrev pub open_fault : Seen → List ℕ → List ℕ → Option DeskFault
open_fault d uri text = sized_open_fault d uri (length text)

-- of `did_change` and `did_close`: no document of this uri is open, or there is no room for the event and the errors of the requests that
-- it ends
abbrev pub end_fault : Seen → List ℕ → Option DeskFault
end_fault d uri =
    or_else (not (is_open uri (state_of d).documents)) NotOpen
    (full_fault d (1 + length (ends uri (state_of d).waiting)))

-- of a request: no document of this uri is open, 1,024 requests wait, one with this id does, or there is no room for the event. The reply
-- gets its place when the job has run.
abbrev pub request_fault : Seen → Id → List ℕ → Option DeskFault
request_fault d id uri =
    or_else (not (is_open uri (state_of d).documents)) NotOpen
    (or_else (nat_le 1024 (requests (state_of d).waiting)) TooManyWaiting
    (or_else (id_waits id (state_of d).waiting) IdInUse (full_fault d 1)))

-- of a cancel: there is no room for the event, and for the error where a request with this id waits
abbrev pub cancel_fault : Seen → Id → Option DeskFault
cancel_fault d id = full_fault d (1 + length (told_if_found request_cancelled (find (asks_with id) (state_of d).waiting)))

-- of a take, which needs room only where there is a job to take
abbrev pub take_fault : Seen → Option DeskFault
take_fault d = or_else (is_some (find is_queued (state_of d).waiting) && is_session_full d 1) SessionFull None

-- of a job that is given back: no worker has one with this ticket, or there is no room for the event
abbrev pub give_back_fault : Seen → ℕ → Option DeskFault
give_back_fault d ticket = or_else (is_none (find (is_held ticket) (state_of d).waiting)) UnknownTicket (full_fault d 1)

-- of a run: no worker has a job with its ticket; it isn't of that job's text, encoding and question; or there is no room for the event and
-- what the job leaves
abbrev pub finish_fault : Seen → Told → Option DeskFault
finish_fault d done =
    let w = find (is_held done.ticket) (state_of d).waiting in
    or_else (is_none w) UnknownTicket
    (or_else (not (is_for w done)) OtherText
    (full_fault d (1 + length (left_at (is_none done.answer) w))))

-- what is kept of a job that has run: its reply; where memory was refused in it a failure, and nothing of a job for findings
abbrev pub kept_for : Bool → Option Request → Kept
kept_for failed request = if failed then (if is_some request then kept.Failure else kept.Nothing) else kept.Reply

-- the same of the job that was found
abbrev pub kept_at : Bool → Option Waiting → Kept
kept_at failed None = kept.Nothing
kept_at failed (Some w) = kept_for failed w.request

-- what `finish` answers with Ok: what is kept of the job with the ticket of this run
abbrev pub kept_of : Seen → Told → Kept
kept_of d done = kept_at (is_none done.answer) (find (is_held done.ticket) (state_of d).waiting)

-- The fault is the first cause, or want of memory where none holds.
abbrev pub IsFirstCause : Option DeskFault → DeskFault → Type 0
IsFirstCause first fault = (first ≡ Some fault) ⊎ ((first ≡ None) × (fault ≡ Memory))

-- The call is refused by the first whose cause holds, or for want of memory where none does, and nothing has changed.
pub record Refuses (first : Option DeskFault) (old new : Seen) (fault : DeskFault) : Type 0 where
  pub cause : IsFirstCause first fault
  pub same : new ≡ old

-- What a call with Ok has done: nothing stood against it, the event is possible, with the machine's own answer, and the journal has it at
-- its end.
pub record Accepts (first : Option DeskFault) (old new : Seen) (e : Event) : Type 0 where
  pub none : first ≡ None
  pub enters : Enters old new e

-- A worker is given this for a waiting job: its ticket, text, encoding and question.
pub record IsJobOf (w : Waiting) (job : Job) : Type 0 where
  pub ticket : job.ticket ≡ w.ticket
  pub text : arc_value job.snapshot ≡ w.text
  pub encoding : job.encoding ≡ w.encoding
  pub ask : job.ask ≡ w.ask

-- The first queued job is handed out, by an event of the worker of this number; or none is queued, and nothing changes.
abbrev pub Takes : ℕ → Seen → Seen → Option Job → Type 0
Takes worker old new None = (find is_queued (state_of old).waiting ≡ None) × (new ≡ old)
Takes worker old new (Some job) = (w : Waiting) × (find is_queued (state_of old).waiting ≡ Some w) × IsJobOf w job × Accepts (take_fault old) old new (Took worker)
