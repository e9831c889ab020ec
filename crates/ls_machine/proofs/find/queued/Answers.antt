use Rattle.std.proofs.Common.{sym, ◌∙◌}
use Rattle.ls_machine.specs.Machine.{is_queued}
use Rattle.ls_machine.proofs.Places.{found_found, none_found}
use Rattle.ls_machine.proofs.find.queued.Goals as goal

pub returns-in-Some-clause-job : goal.returns-in-Some-clause-job
returns-in-Some-clause-job c = sym (found_found is_queued _ _ _ (sym c.first_queued.ensures ∙ c.in-Some.is) c.index-waiting-at.is)

pub returns-in-None-clause-job : goal.returns-in-None-clause-job
returns-in-None-clause-job c = sym (none_found is_queued _ (sym c.first_queued.ensures ∙ c.in-None.is))
