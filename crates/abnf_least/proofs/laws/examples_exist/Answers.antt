use Rattle.abnf_least.proofs.SomeShown.{some_shown}
use Rattle.abnf_least.proofs.laws.examples_exist.Goals as goal

pub returns : goal.returns
returns c = some_shown
