use Rattle.published_blocks.proofs.FoundLaws.{adds_nothing}
use Rattle.published_blocks.proofs.found.end_run.Goals as goal

pub returns-in_default : goal.returns-in_default
returns-in_default c = record { found = adds_nothing c.args.run.now c.args.found.now c.in_default.not-Rule; fault = tt }
