use Rattle.std.proofs.lemmas.Result.{on_ok_weaker}
use Rattle.ls_bodies.proofs.diagnostics.write_finding.Goals as goal

pub returns : goal.returns
returns g c =
    on_ok_weaker c.end_map.result (λ e.
    (_, c.in_ok-begin_map.ensures, (_, _, c.in_ok-key.ensures, c.in_ok-str.ensures, (_, _, c.in_ok-key-2.ensures, c.in_ok-str-2.ensures, (_, _, c.in_ok-key-3.ensures, c.in_ok-write_range.ensures, (_, _, c.in_ok-key-4.ensures, (rw c.severity_number.ensures at c.in_ok-serialize.ensures), (_, _, c.in_ok-key-5.ensures, c.in_ok-str-3.ensures, e))))))) c.end_map.ensures
