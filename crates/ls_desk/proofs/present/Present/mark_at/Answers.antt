use Rattle.ls_machine.specs.Machine.{with_taken}
use Rattle.ls_machine.proofs.Places.{found_set}
use Rattle.ls_desk.proofs.present.Present.mark_at.Goals as goal

pub returns-clause-waiting : goal.returns-clause-waiting
returns-clause-waiting c = λ p at. found_set p (with_taken c.args.taken) _ _ _ at c.index_mut.ensures.value
