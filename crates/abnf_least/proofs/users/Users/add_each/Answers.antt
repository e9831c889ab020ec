use Rattle.std.proofs.Common.{◌≡◌, ◌∙◌, subst, get_or, arith, ℕ}
use Rattle.std.proofs.lemmas.List.{get_or_default}
use Rattle.abnf_least.specs.own.Users.{AddsUser}
use Rattle.abnf_least.proofs.Listed.{adds_more}
use Rattle.abnf_least.proofs.users.Users.add_each.Goals as goal

pub loop-part-preserved : goal.loop-part-preserved
loop-part-preserved c =
    let here : c.get.result ≡ get_or c.args.parts.now c.loop-part.part-index 0 =
    c.get.ensures ∙ (c.part-item.is ∙ get_or_default c.args.parts.now c.loop-part.part-index c.part-item.result 0 (omega arith)) in
    let added = subst (λ (part : ℕ). AddsUser c.loop-part.self part c.args.user c.add.new.self) here c.in_ok-add.ensures in
    adds_more c.args.self.now c.loop-part.self c.add.new.self c.args.parts.now c.loop-part.part-index c.args.user (omega arith) c.loop-part.invariant added
