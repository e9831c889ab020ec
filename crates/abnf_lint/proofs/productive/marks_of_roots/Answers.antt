use Rattle.std.proofs.Common.{◌≡◌, ◌∙◌, ◌↔◌, Bool, IsTrue, ap, subst, sym, arith}
use Rattle.abnf_parts.specs.Part.{root_number}
use Rattle.abnf_lint.proofs.Marks.{each_more}
use Rattle.abnf_lint.specs.Marks.{IsProductive, mark_at}
use Rattle.abnf_lint.proofs.RootMarks.{root_tells}
use Rattle.abnf_lint.proofs.productive.marks_of_roots.Goals as goal

pub loop-rule-preserved : goal.loop-rule-preserved
loop-rule-preserved c =
    let rules = c.args.grammar.now.rules in
    let marks = c.args.marks.now in
    let r = c.loop-rule.rule in
    let is : c.is_marked.result ≡ mark_at marks (root_number rules r) = c.is_marked.ensures ∙ ap (mark_at marks) (c.get.ensures ∙ c.root_of.ensures ∙ ap (root_number rules) c.new.ensures) in
    let told = root_tells rules marks c.requires.sound c.requires.closed r (omega (arith, c.loop-rule-test.true, c.rule_count-count.ensures)) in
    each_more (IsProductive rules) c.loop-rule.rules.items c.push.new.self.items r c.is_marked.result c.loop-rule.invariant.0 c.loop-rule.invariant.1
    (subst (λ (b : Bool). IsTrue b ↔ IsProductive rules r) (sym is) told) c.in_ok-push.ensures.items
