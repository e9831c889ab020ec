use Rattle.std.proofs.Common.{◌≡◌, ◌∙◌, ◌+◌, ◌++◌, ◌∷◌, [], ap, arith, sym, take}
use Rattle.std.specs.Prelude.{Ok}
use Rattle.std.proofs.lemmas.List.{take_more}
use Rattle.rule_texts.proofs.CountLaws.{faulty_more, rule_more}
use Rattle.rule_texts.proofs.counts.count_rules.Goals as goal
use Rattle.rule_texts.proofs.counts.count_rules.Goals.{then-branch, else-branch}

pub loop-block-preserved : goal.loop-block-preserved
loop-block-preserved c =
    let blocks = c.args.blocks.now in
    let at = c.loop-block.block-index in
    let block = c.block-item.result in
    let before = take at blocks in
    let next : take (at + 1) blocks ≡ before ++ block ∷ [] =
    take_more blocks at block c.loop-block-test.true ∙ ap (λ b. before ++ b ∷ []) (sym c.block-item.is) in
    let was = c.loop-block.invariant.are in
    let says = c.in_ok-is_rule.ensures in
    elim c.if-branch.branch [
      | then-branch w ↦
          let are = rule_more before block c.loop-block.rules was (says.rule (ap Ok w.if-branch.true)) in record {
            within = omega (arith, w.rules-is);
            are = rw (next, w.rules-is) are;
          }
      | else-branch w ↦
          let are = faulty_more before block c.loop-block.rules was (says.faulty (ap Ok w.if-branch.false)) in record {
            within = omega (arith, w.rules-is);
            are = rw (next, w.rules-is) are;
          }
    ]
