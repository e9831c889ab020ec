use Rattle.near_names.proofs.NearLaws.{one_nearest}
use Rattle.near_names.proofs.laws.nearest_names_are_unique.Goals as goal

pub returns : goal.returns
returns c = one_nearest
