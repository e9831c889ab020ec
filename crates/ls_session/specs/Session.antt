-- The turn of a session on a message, and the stage that it leaves (LSP 3.17, "Server lifecycle").
use Rattle.std.specs.Prelude.{ℕ, ℤ, List, Bool, Option, Some, None}
use Rattle.serde_json.specs.Data.{Data, null}
use Rattle.serde_json.specs.Written.{compact_text}
use Rattle.ls_rpc.specs.declared.message.Id.{Id}
use Rattle.ls_rpc.specs.Message.{Message, request, notice, response, bad}
use Rattle.ls_rpc.specs.Reply.{result_json}
use Rattle.ls_session.specs.Initialize.{initialize_json}
use Rattle.ls_session.specs.Kind.{request_named, notice_named}
use Rattle.ls_session.specs.Params.{cancel_of, event_of, question_of, agreed_of}
use Rattle.ls_bodies.specs.Refusal.{error_body, refusal_of_code}
use Rattle.ls_bodies.specs.declared.refusal.Refusal.{Refusal}
use Rattle.ls_bodies.specs.declared.refusal.Refusal.TheVariants as refusal
use Rattle.ls_answers.specs.declared.ask.Ask.{Ask}
use Rattle.ls_machine.specs.Client.{IsAllowed}
use Rattle.ls_machine.specs.declared.client.ClientEvent.{ClientEvent}
use Rattle.ls_machine.specs.declared.client.ClientEvent.TheVariants as event
use Rattle.ls_session.specs.declared.turn.Turn.{Turn}
use Rattle.ls_session.specs.declared.turn.Turn.TheVariants.{Nothing, Event, Exit}
use Rattle.ls_session.specs.declared.turn.Status.TheVariants.{Clean, Unclean}
use Rattle.ls_session.specs.declared.kind.RequestKind.{RequestKind}
use Rattle.ls_session.specs.declared.kind.RequestKind.TheVariants as kind
use Rattle.ls_session.specs.declared.kind.NoticeKind.{NoticeKind}
use Rattle.ls_session.specs.declared.kind.NoticeKind.TheVariants as note
use Rattle.ls_session.specs.declared.session.Agreed.{Agreed}
use Rattle.ls_session.specs.declared.session.Stage.{Stage}
use Rattle.ls_session.specs.declared.session.Stage.TheVariants.{BeforeInitialize, Running, ShutDown, Ended}

-- ---- what is said at once

-- a body that is said, as compact JSON
abbrev pub said : Data → Turn
said d = Event (event.Say (compact_text d))

-- an error that is said, to the request with this id, or with a null id where that isn't known
abbrev pub refused : Option Id → Refusal → Turn
refused id refusal = Event (event.Say (error_body id refusal))

-- ---- requests

-- The question of a request goes to the desk; parameters that can't be read are refused as -32602.
abbrev pub turn_of_request : Id → Bool → Option (List ℕ × Ask) → Turn
turn_of_request id links (Some question) = Event (event.Request id question.0 question.1 links)
turn_of_request id links None = refused (Some id) refusal.InvalidParams

-- Before `initialize` that alone is served; all else is refused as -32002.
abbrev pub first_turn : Id → RequestKind → Data → Turn × Stage
first_turn id kind.Initialize params = (said (result_json id (initialize_json (agreed_of params).units)), Running (agreed_of params))
first_turn id k params = (refused (Some id) refusal.NotInitialized, BeforeInitialize)

-- While the session runs `shutdown` is answered by null, a second `initialize` is refused as -32600, an unknown method as -32601, and all
-- else is a question.
abbrev pub running_turn : Agreed → Id → RequestKind → Data → Turn × Stage
running_turn agreed id kind.Initialize params = (refused (Some id) refusal.InvalidRequest, Running agreed)
running_turn agreed id kind.Shutdown params = (said (result_json id null), ShutDown)
running_turn agreed id kind.Unknown params = (refused (Some id) refusal.MethodNotFound, Running agreed)
running_turn agreed id k params = (turn_of_request id agreed.links (question_of k params), Running agreed)

-- The turn on a request, by its stage: after `shutdown` each is refused as -32600, and after `exit` nothing comes of any.
abbrev pub request_turn : Stage → Id → RequestKind → Data → Turn × Stage
request_turn BeforeInitialize id k params = first_turn id k params
request_turn (Running agreed) id k params = running_turn agreed id k params
request_turn ShutDown id k params = (refused (Some id) refusal.InvalidRequest, ShutDown)
request_turn Ended id k params = (Nothing, Ended)

-- ---- notices

-- A notice that can't be read is dropped.
abbrev pub event_or_nothing : Option ClientEvent → Turn
event_or_nothing None = Nothing
event_or_nothing (Some e) = Event e

-- After `shutdown` a notice is taken only where it cancels a request, which may have come before (LSP 3.17, "Cancellation Support").
abbrev pub late_event : NoticeKind → Data → Option ClientEvent
late_event note.CancelRequest params = cancel_of params
late_event k params = None

-- A notice other than `exit` is taken while the session runs; before `initialize` it is dropped (LSP 3.17, "Server lifecycle").
abbrev pub stage_event : Stage → NoticeKind → Data → Option ClientEvent
stage_event BeforeInitialize k params = None
stage_event (Running agreed) k params = event_of agreed k params
stage_event ShutDown k params = late_event k params
stage_event Ended k params = None

-- `exit` is clean after `shutdown` alone (LSP 3.17, "Exit Notification").
abbrev pub exit_turn : Stage → Turn × Stage
exit_turn BeforeInitialize = (Exit Unclean, Ended)
exit_turn (Running agreed) = (Exit Unclean, Ended)
exit_turn ShutDown = (Exit Clean, Ended)
exit_turn Ended = (Nothing, Ended)

-- The turn on a notice: `exit` ends the session, and any other leaves its stage.
abbrev pub notice_turn : Stage → NoticeKind → Data → Turn × Stage
notice_turn stage note.Exit params = exit_turn stage
notice_turn stage k params = (event_or_nothing (stage_event stage k params), stage)

-- ---- all messages

-- What is no message is refused in each stage before `exit`, as -32700 or -32600.
abbrev pub bad_turn : Stage → Option Id → ℤ → Turn
bad_turn BeforeInitialize id code = refused id (refusal_of_code code)
bad_turn (Running agreed) id code = refused id (refusal_of_code code)
bad_turn ShutDown id code = refused id (refusal_of_code code)
bad_turn Ended id code = Nothing

-- The turn on a message, and the stage after it. Before `initialize` requests are refused as -32002 and notices dropped; after `shutdown`
-- requests are refused as -32600 and notices dropped, but for one that cancels a request. `exit` is clean after `shutdown` alone, and after
-- it nothing comes of any message. A response is dropped: the server asks nothing.
unfoldable pub turn_of : Stage → Message → Turn × Stage
turn_of stage (request id method params) = request_turn stage id (request_named method) params
turn_of stage (notice method params) = notice_turn stage (notice_named method) params
turn_of stage response = (Nothing, stage)
turn_of stage (bad id code) = (bad_turn stage id code, stage)

-- ---- what clients may bring

-- The event of a turn, where there is one, is one that clients may bring.
abbrev pub IsAllowedOn : Turn → Type 0
IsAllowedOn Nothing = Unit {0}
IsAllowedOn (Event event) = IsAllowed event
IsAllowedOn (Exit status) = Unit {0}
