-- What a client's event does at a desk, whichever it is.
use Rattle.std.specs.Prelude.{◌≡◌, ℕ, List, Option, Some, None, false}
use Rattle.std.specs.Option.{option_map}
use Rattle.std.specs.Str.{chars, encode_utf8_all}
use Rattle.ls_text.specs.Edits.{is_too_large}
use Rattle.ls_machine.specs.Client.{entry_of}
use Rattle.ls_machine.specs.Machine.{document_of, edited_at, version_if, id_waits}
use Rattle.ls_machine.specs.declared.client.ClientAnswer.{ClientAnswer}
use Rattle.ls_machine.specs.declared.client.ClientEvent.{ClientEvent}
use Rattle.ls_machine.specs.declared.client.ClientEvent.TheVariants.{DidOpen, DidChange, DidClose, Request, Cancel, Say}
use Rattle.ls_machine.specs.declared.event.DeskFault.{DeskFault}
use Rattle.ls_machine.specs.declared.event.Event.{Event}
use Rattle.ls_machine.specs.declared.event.Event.TheVariants.{Opened, Changed, Closed, Asked, Cancelled, Said}
use Rattle.ls_machine.specs.declared.state.State.{State}
use Rattle.ls_desk.specs.Faults.{Accepts, open_fault, end_fault, request_fault, cancel_fault, full_fault}
use Rattle.ls_desk.specs.Stands.{Seen, state_of}

-- the refusal of a client's event that comes first, memory aside. A text that is opened is as long as the UTF-8 of its characters, and a
-- body needs two places, for its event and for itself.
abbrev pub client_fault : Seen → ClientEvent → Option DeskFault
client_fault d (DidOpen uri label text encoding) = open_fault d uri (encode_utf8_all (chars text))
client_fault d (DidChange uri label edits) = end_fault d uri
client_fault d (DidClose uri) = end_fault d uri
client_fault d (Request id uri ask links) = request_fault d id uri
client_fault d (Cancel id) = cancel_fault d id
client_fault d (Say body) = full_fault d 2

-- what is entered for a client's event, with its answer, where the desk doesn't refuse it
abbrev pub entered_at : State → ClientEvent → Event
entered_at s (DidOpen uri label text encoding) = Opened uri label (chars text) encoding s.next_version
entered_at s (DidChange uri label edits) = Changed uri label edits (version_if s.next_version (edited_at (document_of uri s.documents) edits))
entered_at s (DidClose uri) = Closed uri
entered_at s (Request id uri ask links) = Asked id uri ask links s.next_ticket
entered_at s (Cancel id) = Cancelled id (id_waits id s.waiting)
entered_at s (Say body) = Said body

-- It is the text that the event opens, which isn't too large. Any other event opens none.
abbrev pub IsTextOf : ClientEvent → List ℕ → Type 0
IsTextOf (DidOpen uri label text encoding) made = (made ≡ chars text) × (is_too_large made ≡ false)
IsTextOf event made = Unit {0}

-- the text that the event closes, as its document has it; none where it closes none, or no document of its uri is open
abbrev pub text_closed_by : State → ClientEvent → Option (List ℕ)
text_closed_by s (DidClose uri) = option_map (λ d. d.text) (document_of uri s.documents)
text_closed_by s event = None

-- Nothing stood against the event, the journal has its entry at its end, and the answer is the one that stands in the entry.
pub record Admits (event : ClientEvent) (answer : ClientAnswer) (old new : Seen) : Type 0 where
  pub accepts : Accepts (client_fault old event) old new (entered_at (state_of old) event)
  pub answer_is : entry_of event answer ≡ Some (entered_at (state_of old) event)
