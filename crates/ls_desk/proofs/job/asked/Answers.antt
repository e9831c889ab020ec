use Rattle.std.proofs.Common.{◌≡◌, subst}
use Rattle.std.specs.Prelude.{IfOk}
use Rattle.ls_machine.specs.declared.state.Waiting.{Waiting}
use Rattle.ls_machine.specs.Machine.{asked}
use Rattle.ls_desk.proofs.job.asked.Goals as goal

pub returns : goal.returns
returns c =
    let P : Waiting → Type 0 = λ w. IfOk c.about.result (λ job. job ≡ w) in
    subst P (λ i. asked c.args.ticket (c.in_ok-id.ensures.ok i) (c.in_ok-ask.ensures.copy i) c.args.links c.args.document.now) c.about.ensures
