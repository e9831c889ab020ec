use Rattle.abnf_places.proofs.Unique.{one_places}
use Rattle.abnf_places.proofs.laws.places_are_unique.Goals as goal

pub returns : goal.returns
returns c = one_places
