use Rattle.findings_files.proofs.KnownLaws.{one_grammar_as}
use Rattle.findings_files.proofs.laws.printed_grammars_are_unique.Goals as goal

pub returns : goal.returns
returns c = one_grammar_as
