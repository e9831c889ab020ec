use mir.Val.{to_z, of_z}
use Rattle.std.proofs.Common.{◌≡◌, ◌∙◌, sym, ap, rules, w64}
use Rattle.std.specs.Prelude.{Some}
use Rattle.ls_machine.specs.Outs.{entry_for, job_of_run}
use Rattle.ls_machine.specs.declared.state.OutboxEntry.TheVariants.{Outcome}
use Rattle.ls_machine.proofs.copies.entry_for.Goals as goal

pub returns-in_ok-job_of-in-Replied : goal.returns-in_ok-job_of-in-Replied
returns-in_ok-job_of-in-Replied c =
    let label : to_z w64 (of_z w64 c.in-Replied.label) ≡ c.in-Replied.label = search rules in
    (λ i. Outcome (c.in_ok-job_of-in-Replied.ensures i))
    ∙ ((λ i. Outcome (job_of_run c.in-Replied.uri c.in-Replied.version (label i) (Some (record { id = c.in_ok-copy-in-Replied.ensures.ok i; links = c.in-Replied.links })) c.in-Replied.done))
    ∙ ap entry_for (sym c.in-Replied.is))
