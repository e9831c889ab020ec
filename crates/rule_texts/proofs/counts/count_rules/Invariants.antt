use Rattle.std.proofs.Common.{◌≤◌, take}
use Rattle.rule_texts.specs.Rules.{AreRules}
use Rattle.rule_texts.proofs.counts.count_rules.Given as goal

abbrev pub invariant-loop-block : goal.invariant-loop-block
invariant-loop-block l = record {
  within : l.rules ≤ l.block-index;
  are : AreRules (take l.block-index l.blocks) l.rules;
}
