use Rattle.std.proofs.Common.{◌↔◌, ℕ, IsTrue, subst}
use Rattle.abnf_lint.proofs.Marks.{each_more}
use Rattle.abnf_lint.specs.Marks.{IsProductive}
use Rattle.abnf_lint.proofs.productive.by_lengths.Goals as goal

pub loop-rule-preserved : goal.loop-rule-preserved
loop-rule-preserved c =
    let rules = c.args.grammar.now.rules in
    each_more (IsProductive rules) c.loop-rule.rules.items c.push.new.self.items c.loop-rule.rule c.has_length.result c.loop-rule.invariant.0 c.loop-rule.invariant.1
    (subst (λ (k : ℕ). IsTrue c.has_length.result ↔ IsProductive rules k) c.new.ensures c.has_length.ensures) c.in_ok-push.ensures.items
