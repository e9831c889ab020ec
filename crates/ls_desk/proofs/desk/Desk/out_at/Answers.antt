use Rattle.std.proofs.Common.{subst}
use Rattle.std.specs.Prelude.{IfSome}
use Rattle.ls_desk.specs.Stands.{Seen, StandsAt}
use Rattle.ls_desk.proofs.Sends.{stands_at}
use Rattle.ls_desk.proofs.desk.Desk.out_at.Goals as goal

pub returns-clause-stands : goal.returns-clause-stands
returns-clause-stands c =
    let P : Seen → Type 0 = λ d. IfSome c.get.result (λ x. StandsAt d c.args.at x.now) in
    subst P c.self.view_is (stands_at (λ x. x.now) c.get.result _ _ _ _ _ _ _ _ c.self.inside.history.events.ended c.args.at c.self.invariant c.get.ensures.item.0 c.get.ensures.lookup)
