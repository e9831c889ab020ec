use Rattle.joined_grammars.proofs.RepeatLaws.{some_repeats}
use Rattle.joined_grammars.proofs.laws.repeats_exist.Goals as goal

pub returns : goal.returns
returns c = some_repeats
