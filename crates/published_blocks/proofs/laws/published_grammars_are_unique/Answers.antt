use Rattle.published_blocks.specs.Runs.{published_runs}
use Rattle.published_blocks.proofs.FoundLaws.{one_found}
use Rattle.published_blocks.proofs.laws.published_grammars_are_unique.Goals as goal

pub returns : goal.returns
returns c = λ text. one_found (published_runs text)
