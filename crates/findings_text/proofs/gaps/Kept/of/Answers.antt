use Rattle.std.proofs.Common.{List, ℕ, subst, sym}
use Rattle.std.specs.List.Sorted.{IsNonDecreasing}
use Rattle.findings_text.proofs.GapLaws.{lines_rise}
use Rattle.findings_text.proofs.gaps.Kept.of.Goals as goal

pub invariant_of-result : goal.invariant_of-result
invariant_of-result c = subst (λ (ns : List ℕ). IsNonDecreasing ns) (sym c.in_ok-lines.ensures) (lines_rise c.args.found.now c.requires)
