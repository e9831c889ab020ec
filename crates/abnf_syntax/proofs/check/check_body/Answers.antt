use Rattle.std.proofs.Common.{◌∙◌, reverse}
use Rattle.abnf_syntax.specs.own.Check.{fault_behind}
use Rattle.abnf_syntax.proofs.Early.{none_left}
use Rattle.abnf_syntax.proofs.check.check_body.Goals as goal

pub returns-clause-shown : goal.returns-clause-shown
returns-clause-shown c fault e =
    let p = c.loop-i.invariant.first fault e in
    let none = none_left c.args.items.now c.loop-i.i p.0 c.loop-i-test.false in
    c.finish.ensures.shown fault ((λ i. fault_behind (p.1 i) (reverse (p.2 i)) (none i)) ∙ e)
