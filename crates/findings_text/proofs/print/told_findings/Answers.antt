use Rattle.std.proofs.Common.{◌≡◌, ◌-◌, ◌∙◌, arith, rules}
use Rattle.std.specs.Prelude.{filter, nat_lt}
use Rattle.std.proofs.lemmas.Fn.{filter_same}
use Rattle.ls_text.specs.Lines.{line_ends}
use Rattle.abnf_lint.specs.declared.finding.Finding.{Finding}
use Rattle.findings_text.proofs.print.told_findings.Goals as goal

pub returns : goal.returns
returns c =
    let lines : c.line_count.result - 1 ≡ line_ends c.args.told.now = omega (arith, c.line_count.ensures) in
    c.from_vec.ensures
    ∙ (filter_same _ (λ (f : Finding). nat_lt f.place.line (c.line_count.result - 1)) _ (λ x b f' k. search rules) _ _ c.retain.ensures.filtered
    ∙ (λ i. filter (λ (f : Finding). nat_lt f.place.line (lines i)) (c.into_vec-found.ensures i)))
