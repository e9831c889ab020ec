use Rattle.abnf_rename.proofs.RangesKept.{grammar_kept}
use Rattle.abnf_rename.proofs.renames_keep_grammars.Goals as goal

pub returns : goal.returns
returns c = grammar_kept
