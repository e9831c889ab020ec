use Rattle.std.proofs.Common.{◌≡◌, ◌<◌, ◌↔◌, ℕ, Bool, IsTrue, length, sym, subst, arith}
use Rattle.std.proofs.lemmas.Grind.{common_steps}
use Rattle.abnf_lint.specs.Marks.{IsProductive, mark_at}
use Rattle.abnf_lint.specs.Unproductive.{IsUnproductive}
use Rattle.abnf_lint.proofs.Marks.{each_more}
use Rattle.abnf_lint.proofs.without_cert.unproductive_rules.Goals as goal

pub loop-r-preserved : goal.loop-r-preserved
loop-r-preserved c =
    let rules = c.args.grammar.now.rules in
    each_more (IsUnproductive rules) c.loop-r.marks.items c.push.new.self.items c.loop-r.r c.is_unproductive.result c.loop-r.invariant.0 c.loop-r.invariant.1
    (subst (λ (k : ℕ). IsTrue c.is_unproductive.result ↔ IsUnproductive rules k) c.new.ensures c.is_unproductive.ensures) c.in_ok-push.ensures.items

pub is_unproductive-requires-clause-productive : goal.is_unproductive-requires-clause-productive
is_unproductive-requires-clause-productive c =
    let rules = c.args.grammar.now.rules in
    let marks = c.in_ok-productive.productive.items in
    let within : c.loop-r.r < length rules = omega (arith, c.loop-r-test.true, c.len-r-end.ensures, c.in_ok-productive.productive.ok.0, c.in_ok-productive.ensures.one_each) in
    let is : c.index.result.now ≡ mark_at marks c.loop-r.r = grind (arith, common_steps, c.index.ensures) in
    subst (λ (b : Bool). IsTrue b ↔ IsProductive rules c.new.result) (sym is)
    (subst (λ (k : ℕ). IsTrue (mark_at marks c.loop-r.r) ↔ IsProductive rules k) (sym c.new.ensures) (c.in_ok-productive.ensures.each c.loop-r.r within))
