use Rattle.std.proofs.Common.{◌∙◌}
use Rattle.std.proofs.lemmas.Int.{to_z-of_z}
use Rattle.std.specs.Prelude.{Some}
use Rattle.ls_machine.specs.Machine.{measured}
use Rattle.ls_desk.specs.own.Puts.{next_of}
use Rattle.ls_desk.proofs.Grows.{stands}
use Rattle.ls_desk.proofs.desk.Desk.opening.Goals as goal

pub returns-clause-next : goal.returns-clause-next
returns-clause-next c =
    let held = stands c.self.inside.history _ _ _ _ _ c.self.invariant c.self.view_is in
    (simp (to_z-of_z, c.ranges.label) at c.in_ok-next.ensures)
    ∙ (λ i. next_of (held.version_is i) (held.ticket_is i) c.args.uri.now c.args.label (Some (measured c.args.encoding c.args.text.now)))
