use Rattle.std.proofs.lemmas.Result.{on_ok_weaker}
use Rattle.ls_bodies.specs.Bodies.{findings_json, published_json}
use Rattle.ls_bodies.proofs.bodies.PublicationSerialize.serialize.Goals as goal

pub returns : goal.returns
unfolding published_json
returns g c =
    let published = c.args.self.now in
    on_ok_weaker c.end_map.result (λ e.
    c.in_ok-open_notice.ensures (findings_json published.uri.now published.label published.answer.now) _ _ c.in_ok-write_findings.ensures e) c.end_map.ensures
