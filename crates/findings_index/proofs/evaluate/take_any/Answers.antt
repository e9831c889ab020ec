use Rattle.std.proofs.Common.{◌≡◌, ◌∙◌, ◌-◌, length, take, reverse, ap, sym}
use Rattle.findings_index.proofs.WordLaws.{taken_any, left_is}
use Rattle.findings_index.proofs.evaluate.take_any.Goals as goal

pub returns-clause-value : goal.returns-clause-value
returns-clause-value c =
    let xs = c.args.stack.now.items in
    c.one_holds-any.ensures
    ∙ taken_any xs c.deref.result.now c.args.count c.saturating_sub-kept.result c.deref.ensures.value
    (c.saturating_sub-kept.ensures ∙ ap (λ n. n - c.args.count) (c.len.ensures ∙ c.args.stack.now.ok.0))

pub returns-clause-rest : goal.returns-clause-rest
returns-clause-rest c =
    let xs = c.args.stack.now.items in
    let kept : c.saturating_sub-kept.result ≡ length xs - c.args.count =
    c.saturating_sub-kept.ensures ∙ ap (λ n. n - c.args.count) (c.len.ensures ∙ c.args.stack.now.ok.0) in
    ap reverse (c.truncate.ensures.items ∙ ap (λ n. take n xs) kept) ∙ sym (left_is xs c.args.count)
