use Rattle.joined_grammars.proofs.RepeatLaws.{one_repeats}
use Rattle.joined_grammars.proofs.laws.repeats_are_unique.Goals as goal

pub returns : goal.returns
returns c = one_repeats
