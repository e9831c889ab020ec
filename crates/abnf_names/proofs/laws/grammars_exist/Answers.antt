use Rattle.abnf_names.proofs.Exist.{some_grammar}
use Rattle.abnf_names.proofs.laws.grammars_exist.Goals as goal

pub returns : goal.returns
returns c = some_grammar
