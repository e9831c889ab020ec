use Rattle.std.proofs.lemmas.Result.{on_ok_weaker}
use Rattle.ls_bodies.proofs.edits.write_actions.Goals as goal

pub returns : goal.returns
returns g c = on_ok_weaker c.end_seq.result (λ e. (_, c.in_ok-begin_seq.ensures, (_, c.in_ok-write_action.ensures, e))) c.end_seq.ensures
