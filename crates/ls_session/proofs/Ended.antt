-- After an exit each message comes to nothing.
use Rattle.std.proofs.Common.{◌≡◌, refl}
use Rattle.serde_json.specs.Data.{Data}
use Rattle.ls_rpc.specs.Message.{Message, request, notice, response, bad}
use Rattle.ls_session.specs.Kind.{notice_named}
use Rattle.ls_session.specs.Session.{notice_turn, turn_of}
use Rattle.ls_session.specs.declared.turn.Turn.TheVariants.{Nothing}
use Rattle.ls_session.specs.declared.kind.NoticeKind.{NoticeKind}
use Rattle.ls_session.specs.declared.kind.NoticeKind.TheVariants as note
use Rattle.ls_session.specs.declared.session.Stage.TheVariants.{Ended}

notice_ended : (k : NoticeKind) (params : Data) → notice_turn Ended k params ≡ (Nothing, Ended)
notice_ended note.Exit params = refl
notice_ended note.DidOpen params = refl
notice_ended note.DidChange params = refl
notice_ended note.DidClose params = refl
notice_ended note.CancelRequest params = refl
notice_ended note.Unknown params = refl

pub turn_ended : (message : Message) → turn_of Ended message ≡ (Nothing, Ended)
unfolding turn_of
turn_ended (request id method params) = refl
turn_ended (notice method params) = notice_ended (notice_named method) params
turn_ended response = refl
turn_ended (bad id code) = refl
