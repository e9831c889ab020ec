use Rattle.abnf_rename.proofs.NamesKept.{both_kept}
use Rattle.abnf_rename.proofs.grammars_are_kept.Goals as goal

pub returns : goal.returns
returns c = both_kept
