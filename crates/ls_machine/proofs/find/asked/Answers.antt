use Rattle.std.proofs.Common.{sym, ◌∙◌}
use Rattle.ls_machine.specs.Machine.{asks_with}
use Rattle.ls_machine.proofs.Places.{found_found, none_found}
use Rattle.ls_machine.proofs.find.asked.Goals as goal

pub returns-in-Some-clause-job : goal.returns-in-Some-clause-job
returns-in-Some-clause-job c = sym (found_found (asks_with c.args.id.now) _ _ _ (sym c.asked_at.ensures ∙ c.in-Some.is) c.index-waiting-at.is)

pub returns-in-None-clause-job : goal.returns-in-None-clause-job
returns-in-None-clause-job c = sym (none_found (asks_with c.args.id.now) _ (sym c.asked_at.ensures ∙ c.in-None.is))
