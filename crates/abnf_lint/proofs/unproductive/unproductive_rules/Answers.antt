use Rattle.std.proofs.Common.{subst}
use Rattle.std.specs.Prelude.{◌↔◌, IsTrue}
use Rattle.abnf_lint.specs.Unproductive.{IsUnproductive}
use Rattle.abnf_lint.proofs.Marks.{each_more}
use Rattle.abnf_lint.proofs.unproductive.unproductive_rules.Goals as goal

pub loop-r-preserved : goal.loop-r-preserved
loop-r-preserved c =
    each_more (IsUnproductive c.args.grammar.now.rules) c.loop-r.marks.items c.push.new.self.items c.loop-r.r c.is_unproductive-mark.result c.loop-r.invariant.0 c.loop-r.invariant.1
    (subst (λ k. IsTrue c.is_unproductive-mark.result ↔ IsUnproductive c.args.grammar.now.rules k) c.new.ensures c.is_unproductive-mark.ensures) c.in_ok-push.ensures.items
