use Rattle.std.proofs.Common.{◌≡◌, List, ℕ, true, arith, rules, sym, ◌∙◌}
use Rattle.std.specs.Prelude.{nat_eq}
use Rattle.std.specs.Cmp.Lexicographic.{pointwise}
use Rattle.incremental_findings.proofs.PartLaws.{back_more}
use Rattle.incremental_findings.proofs.difference.up_to_back.Goals as goal

same_texts : (a b : List ℕ) → pointwise nat_eq a b ≡ true → a ≡ b
same_texts a b e = search rules

pub loop-old-preserved : goal.loop-old-preserved
loop-old-preserved c =
    let same = sym c.line.ensures ∙ same_texts _ _ (sym c.eq.ensures ∙ c.if-eq.true) ∙ c.line-then-new-front.ensures in
    record {
      back = back_more c.args.ours.now c.args.theirs.now c.loop-old.old c.loop-old.new (omega (arith, c.loop-old-test.true))
          (omega (arith, c.if-new-front.true)) same c.loop-old.invariant.back;
      order = (omega (arith, c.loop-old-test.true), omega (arith, c.if-new-front.true));
    }
