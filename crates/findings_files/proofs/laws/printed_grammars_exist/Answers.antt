use Rattle.findings_files.proofs.KnownLaws.{some_grammar_as}
use Rattle.findings_files.proofs.laws.printed_grammars_exist.Goals as goal

pub returns : goal.returns
returns c = some_grammar_as
