use Rattle.std.proofs.lemmas.Result.{on_ok_weaker}
use Rattle.ls_bodies.specs.Bodies.{answer_json, answered_json}
use Rattle.ls_bodies.proofs.bodies.ReplySerialize.serialize.Goals as goal

pub returns : goal.returns
unfolding answered_json
returns g c =
    let reply = c.args.self.now in
    on_ok_weaker c.end_map.result (λ e.
    c.in_ok-open_reply.ensures (answer_json reply.document.uri.now reply.document.label reply.document.links reply.answer.now) _ _ c.in_ok-write_answer.ensures e) c.end_map.ensures
