-- No message of a client asks for a diagnosis: that is the desk's own job.
use Rattle.std.proofs.Common.{◌≡◌, ℕ, ℤ, List, Bool, Option, Some, None, option_map, option_and_then, unwrap_or, codes, sym, subst}
use Rattle.std.specs.Prelude.{◌≢◌}
use Rattle.serde_json.specs.Data.{Data}
use Rattle.serde_json.specs.Find.{get, as_str}
use Rattle.ls_text.specs.declared.edit.Edit.{Edit}
use Rattle.ls_text.specs.declared.position.Position.{Position}
use Rattle.ls_rpc.specs.declared.message.Id.{Id}
use Rattle.ls_rpc.specs.Message.{Message, request, notice, response, bad, id_of}
use Rattle.ls_text.specs.declared.position.Encoding.{Encoding}
use Rattle.ls_answers.specs.declared.ask.Ask.{Ask}
use Rattle.ls_answers.specs.declared.ask.Ask.TheVariants.{Hover, Definition, References, Rename, Action, Diagnose}
use Rattle.ls_session.specs.Params.{◌>>=◌, ask_of, changes_of, declarations_of, document_member, encoding_in, event_of, label_of, asked_position, question_of, range_of, uri_of}
use Rattle.ls_session.specs.Session.{turn_of_request, bad_turn, event_or_nothing, exit_turn, first_turn, late_event, notice_turn, request_turn, running_turn, stage_event, turn_of, IsAllowedOn}
use Rattle.ls_machine.specs.declared.client.ClientEvent.{ClientEvent}
use Rattle.ls_machine.specs.declared.client.ClientEvent.TheVariants as event
use Rattle.ls_session.specs.declared.turn.Turn.{Turn}
use Rattle.ls_session.specs.declared.turn.Turn.TheVariants.{Event}
use Rattle.ls_session.specs.declared.kind.RequestKind.{RequestKind}
use Rattle.ls_session.specs.declared.kind.RequestKind.TheVariants as kind
use Rattle.ls_session.specs.declared.kind.NoticeKind.{NoticeKind}
use Rattle.ls_session.specs.declared.kind.NoticeKind.TheVariants as note
use Rattle.ls_session.specs.declared.session.Agreed.{Agreed}
use Rattle.ls_session.specs.declared.session.Stage.{Stage}
use Rattle.ls_session.specs.declared.session.Stage.TheVariants.{BeforeInitialize, Running, ShutDown, Ended}
use Rattle.ls_session.specs.Kind.{request_named, notice_named}
use Rattle.ls_machine.specs.Client.{IsAllowed}

-- ---- questions

abbrev IsAsked : Option Ask → Type 0
IsAsked None = Unit {0}
IsAsked (Some ask) = ask ≢ Diagnose

asked_map : {A : Type 0} (f : A → Ask) (o : Option A) → ((x : A) → f x ≢ Diagnose) → IsAsked (option_map f o)
asked_map f None h = tt
asked_map f (Some x) h = h x

references_allowed : (at : Option Position) (declarations : Bool) → IsAsked (option_and_then (λ p. Some (References p declarations)) at)
references_allowed None declarations = tt
references_allowed (Some p) declarations = λ e. cc

rename_allowed : (at : Option Position) (new : Option (List ℕ)) → IsAsked (option_and_then (λ p. option_and_then (λ n. Some (Rename p n)) new) at)
rename_allowed None new = tt
rename_allowed (Some p) None = tt
rename_allowed (Some p) (Some n) = λ e. cc

ask_allowed : (k : RequestKind) (params : Data) → IsAsked (ask_of k params)
ask_allowed kind.Initialize params = tt
ask_allowed kind.Shutdown params = tt
ask_allowed kind.Hover params = asked_map Hover (asked_position params) (λ x e. cc)
ask_allowed kind.Definition params = asked_map Definition (asked_position params) (λ x e. cc)
ask_allowed kind.References params = references_allowed (asked_position params) (declarations_of params)
ask_allowed kind.DocumentSymbol params = λ e. cc
ask_allowed kind.Rename params = rename_allowed (asked_position params) (get (codes "newName") params >>= as_str)
ask_allowed kind.CodeAction params = asked_map Action (get (codes "range") params >>= range_of) (λ x e. cc)
ask_allowed kind.SemanticTokens params = λ e. cc
ask_allowed kind.Unknown params = tt

abbrev IsQuestion : Option (List ℕ × Ask) → Type 0
IsQuestion None = Unit {0}
IsQuestion (Some question) = question.1 ≢ Diagnose

question_of_both : (uri : Option (List ℕ)) (ask : Option Ask) → IsAsked ask → IsQuestion (option_and_then (λ u. option_and_then (λ a. Some (u, a)) ask) uri)
question_of_both None ask h = tt
question_of_both (Some uri) None h = tt
question_of_both (Some uri) (Some ask) h = h

question_allowed : (k : RequestKind) (params : Data) → IsQuestion (question_of k params)
question_allowed k params = question_of_both (uri_of params) (ask_of k params) (ask_allowed k params)

asked_allowed : (id : Id) (links : Bool) (question : Option (List ℕ × Ask)) → IsQuestion question → IsAllowedOn (turn_of_request id links question)
asked_allowed id links None h = tt
asked_allowed id links (Some question) h = h

-- ---- requests

first_allowed : (id : Id) (k : RequestKind) (params : Data) → IsAllowedOn (first_turn id k params).0
first_allowed id kind.Initialize params = tt
first_allowed id k params = tt

running_allowed : (agreed : Agreed) (id : Id) (k : RequestKind) (params : Data) → IsAllowedOn (running_turn agreed id k params).0
running_allowed agreed id kind.Initialize params = tt
running_allowed agreed id kind.Shutdown params = tt
running_allowed agreed id kind.Unknown params = tt
running_allowed agreed id k params = asked_allowed id agreed.links (question_of k params) (question_allowed k params)

request_allowed : (stage : Stage) (id : Id) (k : RequestKind) (params : Data) → IsAllowedOn (request_turn stage id k params).0
request_allowed BeforeInitialize id k params = first_allowed id k params
request_allowed (Running agreed) id k params = running_allowed agreed id k params
request_allowed ShutDown id k params = tt
request_allowed Ended id k params = tt

-- ---- notices

abbrev IsEvent : Option ClientEvent → Type 0
IsEvent None = Unit {0}
IsEvent (Some e) = IsAllowed e

event_map : {A : Type 0} (f : A → ClientEvent) (o : Option A) → ((x : A) → IsAllowed (f x)) → IsEvent (option_map f o)
event_map f None h = tt
event_map f (Some x) h = h x

open_allowed : (uri : Option (List ℕ)) (label : ℤ) (text : Option (List ℕ)) (encoding : List ℕ → Encoding)
    → IsEvent (option_and_then (λ u. option_and_then (λ t. Some (event.DidOpen u label t (encoding u))) text) uri)
open_allowed None label text encoding = tt
open_allowed (Some u) label None encoding = tt
open_allowed (Some u) label (Some t) encoding = tt

change_allowed : (uri : Option (List ℕ)) (label : ℤ) (edits : Option (List Edit))
    → IsEvent (option_and_then (λ u. Some (unwrap_or (option_map (event.DidChange u label) edits) (event.DidClose u))) uri)
change_allowed None label edits = tt
change_allowed (Some u) label None = tt
change_allowed (Some u) label (Some es) = tt

event_allowed : (agreed : Agreed) (k : NoticeKind) (params : Data) → IsEvent (event_of agreed k params)
event_allowed agreed note.Exit params = tt
event_allowed agreed note.DidOpen params = open_allowed (uri_of params) (label_of params) (document_member (codes "text") params >>= as_str) (λ uri. encoding_in agreed uri params)
event_allowed agreed note.DidChange params = change_allowed (uri_of params) (label_of params) (changes_of params)
event_allowed agreed note.DidClose params = event_map event.DidClose (uri_of params) (λ uri. tt)
event_allowed agreed note.CancelRequest params = event_map event.Cancel (get (codes "id") params >>= id_of) (λ id. tt)
event_allowed agreed note.Unknown params = tt

late_allowed : (k : NoticeKind) (params : Data) → IsEvent (late_event k params)
late_allowed note.CancelRequest params = event_map event.Cancel (get (codes "id") params >>= id_of) (λ id. tt)
late_allowed k params = tt

stage_allowed : (stage : Stage) (k : NoticeKind) (params : Data) → IsEvent (stage_event stage k params)
stage_allowed BeforeInitialize k params = tt
stage_allowed (Running agreed) k params = event_allowed agreed k params
stage_allowed ShutDown k params = late_allowed k params
stage_allowed Ended k params = tt

told_allowed : (e : Option ClientEvent) → IsEvent e → IsAllowedOn (event_or_nothing e)
told_allowed None h = tt
told_allowed (Some e) h = h

exit_allowed : (stage : Stage) → IsAllowedOn (exit_turn stage).0
exit_allowed BeforeInitialize = tt
exit_allowed (Running agreed) = tt
exit_allowed ShutDown = tt
exit_allowed Ended = tt

notice_allowed : (stage : Stage) (k : NoticeKind) (params : Data) → IsAllowedOn (notice_turn stage k params).0
notice_allowed stage note.Exit params = exit_allowed stage
notice_allowed stage k params = told_allowed (stage_event stage k params) (stage_allowed stage k params)

-- ---- all messages

bad_allowed : (stage : Stage) (id : Option Id) (code : ℤ) → IsAllowedOn (bad_turn stage id code)
bad_allowed BeforeInitialize id code = tt
bad_allowed (Running agreed) id code = tt
bad_allowed ShutDown id code = tt
bad_allowed Ended id code = tt

turn_allowed : (stage : Stage) (message : Message) → IsAllowedOn (turn_of stage message).0
unfolding turn_of
turn_allowed stage (request id method params) = request_allowed stage id (request_named method) params
turn_allowed stage (notice method params) = notice_allowed stage (notice_named method) params
turn_allowed stage response = tt
turn_allowed stage (bad id code) = bad_allowed stage id code

-- an event that a session's turn gives
pub event_is_allowed : (stage later : Stage) (message : Message) (turn : Turn) (e : ClientEvent) → (turn, later) ≡ turn_of stage message → turn ≡ Event e → IsAllowed e
event_is_allowed stage later message turn e given is =
    let P : Turn × Stage → Type 0 = λ t. IsAllowedOn t.0 in
    subst IsAllowedOn is (subst P (sym given) (turn_allowed stage message))
