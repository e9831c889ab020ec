use Rattle.std.proofs.lemmas.Result.{on_ok_weaker}
use Rattle.ls_bodies.proofs.edits.write_document_changes.Goals as goal

pub returns : goal.returns
returns g c =
    on_ok_weaker c.end_map.result (λ e.
    (_, c.in_ok-begin_map.ensures, (_, _, c.in_ok-key.ensures, (_, c.in_ok-begin_seq.ensures, (_, c.in_ok-write_document_edit.ensures, c.in_ok-end_seq.ensures)), e))) c.end_map.ensures
