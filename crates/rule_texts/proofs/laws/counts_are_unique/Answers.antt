use Rattle.rule_texts.proofs.CountLaws.{one_counts}
use Rattle.rule_texts.proofs.laws.counts_are_unique.Goals as goal

pub returns : goal.returns
returns c = one_counts
