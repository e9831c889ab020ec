use Rattle.std.proofs.lemmas.Result.{on_ok_weaker}
use Rattle.ls_bodies.proofs.edits.write_changes.Goals as goal

pub returns : goal.returns
returns g c =
    on_ok_weaker c.end_map-2.result (λ e.
    (_, c.in_ok-begin_map.ensures, (_, _, c.in_ok-key.ensures, (_, c.in_ok-begin_map-2.ensures, (_, _, c.in_ok-key-2.ensures, c.in_ok-write_edits.ensures, c.in_ok-end_map.ensures)), e))) c.end_map-2.ensures
