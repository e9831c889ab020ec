-- Findings can be put in order.
use Rattle.std.proofs.Common.{List}
use Rattle.std.specs.Ordering.{is_lt}
use Rattle.std.proofs.lemmas.List.Sorted.{ranks_by}
use Rattle.abnf_lint.specs.declared.finding.Finding.{Finding}
use Rattle.abnf_lint.specs.Order.{key, key_cmp}
use Rattle.abnf_lint.specs.own.Findings.{AreOrdered}
use Rattle.abnf_lint.proofs.InOrder.{ordered, ordered_all, ordered_sorted, ordered_stable}
use Rattle.abnf_lint.proofs.OneFinding.{key_total}

pub some_order : (given : List Finding) → (found : List Finding) × AreOrdered given found
some_order given =
    let lt = λ (x y : Finding). is_lt (key_cmp (key x) (key y)) in
    let o = ranks_by key_total key in
    (ordered lt o given, record { all = ordered_all lt o given; sorted = ordered_sorted lt o given; stable = ordered_stable lt o given })
