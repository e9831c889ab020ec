use Rattle.std.proofs.Common.{◌∙◌, List, ℕ, ap, subst, sym}
use Rattle.std.specs.Prelude.{nat_eq}
use Rattle.std.specs.List.{list_any}
use Rattle.std.specs.List.Sorted.{IsNonDecreasing}
use Rattle.findings_text.proofs.GapLaws.{is_among}
use Rattle.findings_text.proofs.gaps.Kept.has.Goals as goal

pub returns : goal.returns
returns c =
    let lines : List ℕ = c.as_slice.result.now in
    let up : IsNonDecreasing lines = subst (λ (ns : List ℕ). IsNonDecreasing ns) (sym c.as_slice.ensures) c.self.invariant in
    c.is_ok.ensures.value
    ∙ (is_among lines c.args.line up c.binary_search.result c.binary_search.ensures.position
    ∙ ap (list_any (nat_eq c.args.line)) (c.as_slice.ensures ∙ c.self.view_is))
