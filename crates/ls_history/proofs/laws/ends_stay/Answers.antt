use Rattle.ls_history.proofs.Stops.{stays}
use Rattle.ls_history.proofs.laws.ends_stay.Goals as goal

pub returns : goal.returns
returns c = stays
