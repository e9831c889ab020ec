use Rattle.ls_machine.proofs.Places.{found_found, found_removed}
use Rattle.std.proofs.Common.{◌∙◌}
use Rattle.ls_desk.proofs.present.Present.remove_at.Goals as goal

pub returns-clause-waiting : goal.returns-clause-waiting
returns-clause-waiting c = λ p at. (found_found p _ _ _ at c.remove.ensures.value, c.remove.ensures.items ∙ found_removed p _ _ _ at c.remove.ensures.value)
