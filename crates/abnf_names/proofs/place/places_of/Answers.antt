use Rattle.std.proofs.Common.{arith}
use Rattle.std.proofs.lemmas.Grind.{common_steps}
use Rattle.abnf_names.proofs.place.places_of.Goals as goal

pub loop-section-preserved : goal.loop-section-preserved
loop-section-preserved = grind (arith, common_steps)
