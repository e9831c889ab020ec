use Rattle.near_names.proofs.NearLaws.{is_nearest}
use Rattle.near_names.proofs.laws.nearest_names_are_nearest.Goals as goal

pub returns : goal.returns
returns c = is_nearest
