use Rattle.std.proofs.Common.{arith}
use Rattle.std.proofs.lemmas.Grind.{common_steps}
use Rattle.abnf_names.proofs.place.push_places.Goals as goal

pub returns : goal.returns
returns = grind (arith, common_steps)
