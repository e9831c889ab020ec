use Rattle.std.proofs.lemmas.Result.{on_ok_weaker}
use Rattle.ls_rpc.proofs.reply.NoticeSerialize.serialize.Goals as goal

pub returns : goal.returns
returns g c = on_ok_weaker c.end_map.result (λ e. c.in_ok-open_notice.ensures _ _ _ c.in_ok-serialize.ensures e) c.end_map.ensures
