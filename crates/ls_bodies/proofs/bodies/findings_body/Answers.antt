use Rattle.std.proofs.Common.{ap, ◌∙◌}
use Rattle.std.proofs.Math.Facts.{to_z-of_z}
use Rattle.std.proofs.lemmas.Result.{IfOk-weaker}
use Rattle.serde_json.specs.Written.{compact_text}
use Rattle.serde_json.proofs.FreeTexts.{text_of_value}
use Rattle.ls_bodies.specs.Bodies.{findings_body, published_json}
use Rattle.ls_bodies.proofs.Floats.{published_whole}
use Rattle.ls_bodies.proofs.bodies.findings_body.Goals as goal

pub returns : goal.returns
unfolding findings_body
returns c =
    IfOk-weaker c.written.result _ _ (λ body e.
    let events = rw e at c.to_vec.ensures.events in
    text_of_value _ events.0 _ events.1 events.2 (published_whole _ _ _)
    ∙ ap (λ label. compact_text (published_json c.args.uri.now label c.args.answer.now)) (to_z-of_z c.ranges.label)) c.written.ensures
