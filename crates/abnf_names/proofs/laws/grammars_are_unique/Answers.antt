use Rattle.abnf_names.proofs.OneGrammar.{one_grammar}
use Rattle.abnf_names.proofs.laws.grammars_are_unique.Goals as goal

pub returns : goal.returns
returns c = one_grammar
