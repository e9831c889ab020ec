use Rattle.joined_grammars.proofs.JoinLaws.{some_joined}
use Rattle.joined_grammars.proofs.laws.joined_texts_exist.Goals as goal

pub returns : goal.returns
returns c = some_joined
