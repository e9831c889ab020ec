use Rattle.abnf_rename.proofs.TreeLaws.{meaning_kept}
use Rattle.abnf_rename.proofs.meaning_is_kept.Goals as goal

pub returns : goal.returns
returns c = meaning_kept
