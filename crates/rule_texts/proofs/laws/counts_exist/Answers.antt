use Rattle.rule_texts.proofs.CountLaws.{some_counts}
use Rattle.rule_texts.proofs.laws.counts_exist.Goals as goal

pub returns : goal.returns
returns c = some_counts
