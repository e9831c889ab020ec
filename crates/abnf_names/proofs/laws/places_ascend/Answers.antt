use Rattle.abnf_names.proofs.Ascending as ascending
use Rattle.abnf_names.proofs.laws.places_ascend.Goals as goal

pub returns : goal.returns
returns c = ascending.places_ascend
