use Rattle.abnf_lint.proofs.FoundBlock.{found_are}
use Rattle.findings_index.specs.ToldOfBlock.{head_told}
use Rattle.findings_index.proofs.laws.blocks_are_found_by_told.Goals as goal

pub returns : goal.returns
returns c = λ told. found_are (λ head. head_told told) told.strange
