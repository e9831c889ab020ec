use Rattle.std.proofs.Common.{arith}
use Rattle.std.proofs.lemmas.Grind.{common_steps}
use Rattle.abnf_names.proofs.place.push_named.Goals as goal

pub returns-in-Name : goal.returns-in-Name
returns-in-Name = grind (arith, common_steps)
