use Rattle.std.proofs.Common.{◌≡◌, rules}
use Rattle.serde_json.specs.Data.{number}
use Rattle.serde_json.specs.Find.{of_integer}
use Rattle.serde_json.specs.View.{view}
use Rattle.std.proofs.lemmas.Result.{on_ok_weaker}
use Rattle.ls_bodies.proofs.bodies.write_findings.Goals as goal

pub returns : goal.returns
returns g c =
    let version : view c.from.result ≡ number (of_integer c.args.published.now.label) = search rules in
    on_ok_weaker c.end_map.result (λ e.
    (_, c.in_ok-begin_map.ensures, (_, _, c.in_ok-key.ensures, c.in_ok-write_found.ensures, (_, _, c.in_ok-key-2.ensures, c.in_ok-str.ensures, (_, _, c.in_ok-key-3.ensures, (rw version at c.in_ok-serialize.ensures), e))))) c.end_map.ensures
