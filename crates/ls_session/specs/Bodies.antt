-- The bodies of what the desk says: of what waits to be said, and of its refusals.
use Rattle.std.specs.Prelude.{ℕ, List, Option, Some, None, option_map}
use Rattle.ls_rpc.specs.declared.message.Id.{Id}
use Rattle.ls_bodies.specs.Bodies.{failure_body, findings_body, reply_body}
use Rattle.ls_bodies.specs.Refusal.{error_body}
use Rattle.ls_bodies.specs.declared.refusal.Refusal.{Refusal}
use Rattle.ls_bodies.specs.declared.refusal.Refusal.TheVariants as refusal
use Rattle.ls_machine.specs.declared.event.Out.{Out}
use Rattle.ls_machine.specs.declared.event.Out.TheVariants as out
use Rattle.ls_machine.specs.declared.event.DeskFault.{DeskFault}
use Rattle.ls_machine.specs.declared.event.DeskFault.TheVariants as fault

-- The body of what waits to be said, byte for byte. Places in a document come with its uri (LSP 3.17, "Location"), findings with the
-- document's uri and the client's version of it (LSP 3.17, "PublishDiagnostics Notification"). There is none of a job that was refused
-- memory.
unfoldable pub body_of : Out → Option (List ℕ)
body_of (out.Said body) = Some body
body_of (out.Replied id uri version label links done) = option_map (reply_body id uri label links) done.answer
body_of (out.Failed ticket id code) = Some (failure_body id code)
body_of (out.Findings uri version label done) = option_map (findings_body uri label) done.answer

-- The error that answers a request which a desk doesn't take: one about a document that isn't open, one too many, or one with the id of
-- another that waits. No other fault of a desk is answered: it isn't a request's, or is the server's own.
abbrev pub refusal_of_fault : DeskFault → Option Refusal
refusal_of_fault fault.NotOpen = Some refusal.DocumentNotOpen
refusal_of_fault fault.AlreadyOpen = None
refusal_of_fault fault.TooManyDocuments = None
refusal_of_fault fault.TooManyWaiting = Some refusal.TooManyWaiting
refusal_of_fault fault.IdInUse = Some refusal.IdInUse
refusal_of_fault fault.TooLarge = None
refusal_of_fault fault.UnknownTicket = None
refusal_of_fault fault.OtherText = None
refusal_of_fault fault.SessionFull = None
refusal_of_fault fault.Memory = None

-- The body that answers a refused request, byte for byte, where there is one.
unfoldable pub refusal_of : Id → DeskFault → Option (List ℕ)
refusal_of id fault = option_map (error_body (Some id)) (refusal_of_fault fault)

-- The body that says to whoever asked that the desk refused it. There is none where nobody asked.
abbrev pub refusal_to : Option Id → DeskFault → Option (List ℕ)
refusal_to None fault = None
refusal_to (Some id) fault = refusal_of id fault
