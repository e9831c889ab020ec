use Rattle.joined_grammars.proofs.JoinLaws.{one_joined}
use Rattle.joined_grammars.proofs.laws.joined_texts_are_unique.Goals as goal

pub returns : goal.returns
returns c = one_joined
