use Rattle.published_blocks.specs.Runs.{published_runs}
use Rattle.published_blocks.proofs.FoundLaws.{some_found}
use Rattle.published_blocks.proofs.laws.published_grammars_exist.Goals as goal

pub returns : goal.returns
returns c = λ text. some_found (published_runs text)
