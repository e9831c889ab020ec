use Rattle.std.proofs.Common.{◌≡◌, ◌≤◌, Option, None, Some, sym, subst, rules}
use Rattle.ls_answers.specs.declared.job.Job.{Job}
use Rattle.ls_machine.specs.Counts.{total}
use Rattle.ls_desk.specs.Stands.{Seen, counts_of}
use Rattle.ls_desk.specs.Faults.{Takes}
use Rattle.ls_steps.specs.Runs.{Going, counts_at}
use Rattle.ls_steps.proofs.Bounds.{sound_fits}
use Rattle.ls_steps.proofs.conversation.Conversation.take.Goals as goal

pub returns-then-is_full-clause-fits : goal.returns-then-is_full-clause-fits
returns-then-is_full-clause-fits c =
    let P : Going → Type 0 = λ g. total (counts_at g) ≤ g.max_events in subst P c.self.view_is (sound_fits c.self.inside.desk c.self.invariant)

untouched : (old new : Seen) (o : Option Job) → o ≡ None → Takes 0 old new o → new ≡ old
untouched old new None e t = t.1
untouched old new (Some job) e t = absurd (cc)

pub returns-in-Ok-None-clause-fits : goal.returns-in-Ok-None-clause-fits
returns-in-Ok-None-clause-fits c =
    let P : Seen → Type 0 = λ d. total (counts_of d) ≤ d.max_events in
    subst P (sym (untouched c.self.inside.desk c.take.new.self c.in-Ok-None.field-0 c.in-Ok-None.field-0-is c.in-Ok-None.ensures.ok)) (sound_fits c.self.inside.desk c.self.invariant)

pub returns-in-Err-SessionFull-clause-fits : goal.returns-in-Err-SessionFull-clause-fits
returns-in-Err-SessionFull-clause-fits c =
    let P : Seen → Type 0 = λ d. total (counts_of d) ≤ d.max_events in
    subst P (sym c.in-Err-SessionFull.ensures.err.same) (sound_fits c.self.inside.desk c.self.invariant)

pub returns-in_ok-push-in-Ok-Some-clause-taken : goal.returns-in_ok-push-in-Ok-Some-clause-taken
returns-in_ok-push-in-Ok-Some-clause-taken = search rules depth 3
