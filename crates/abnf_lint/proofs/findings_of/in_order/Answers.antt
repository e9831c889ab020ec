use Rattle.std.proofs.Common.{rules, sym, subst, List}
use Rattle.std.proofs.lemmas.List.Sorted.{answers_always}
use Rattle.abnf_lint.specs.declared.finding.Finding.{Finding}
use Rattle.abnf_lint.specs.Order.{key}
use Rattle.abnf_lint.specs.own.Findings.{AreOrdered}
use Rattle.abnf_lint.proofs.findings_of.in_order.Goals as goal

pub returns : goal.returns
returns c =
    let are : AreOrdered c.into_vec-found.result.items c.sort_by_key.new.self.items = record {
      all = c.sort_by_key.ensures.permutation;
      sorted = c.in_ok-sort_by_key.ensures.sorted key (answers_always _ _ _ (λ f a r g h. search rules));
      stable = c.sort_by_key.ensures.stable key (answers_always _ _ _ (λ f a r g h. search rules));
    } in
    subst (λ (fs : List Finding). AreOrdered fs c.from_vec.result) c.into_vec-found.ensures (subst (λ (fs : List Finding). AreOrdered c.into_vec-found.result.items fs) (sym c.from_vec.ensures) are)
