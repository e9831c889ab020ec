use Rattle.std.proofs.Common.{◌≡◌, None, ap, ◌∙◌, rules}
use Rattle.std.proofs.Math.Facts.{to_z-of_z}
use Rattle.std.proofs.lemmas.Result.{IfOk-weaker}
use Rattle.serde_json.specs.Written.{compact_text}
use Rattle.serde_json.proofs.FreeTexts.{text_of_value}
use Rattle.ls_bodies.specs.Bodies.{answered_json, refusal_in, reply_body}
use Rattle.ls_bodies.proofs.Floats.{answered_whole}
use Rattle.ls_bodies.proofs.bodies.reply_body.Goals as goal

pub returns : goal.returns
unfolding reply_body
returns c =
    let granted : refusal_in c.args.answer.now ≡ None = search rules in
    IfOk-weaker c.written.result _ _ (λ body e.
    let events = rw e at c.to_vec.ensures.events in
    rw granted (text_of_value _ events.0 _ events.1 events.2 (answered_whole _ _ _ _ _)
    ∙ ap (λ label. compact_text (answered_json c.args.id.now c.args.uri.now label c.args.links c.args.answer.now)) (to_z-of_z c.ranges.label))) c.written.ensures
