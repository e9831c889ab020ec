use Rattle.std.proofs.Common.{◌≡◌, drop}
use Rattle.abnf_names.specs.Places.{places_among}
use Rattle.abnf_names.proofs.place.first_called.Given as goal

abbrev pub invariant-loop-at : goal.invariant-loop-at
invariant-loop-at l = places_among l.name (drop l.from l.spots) ≡ places_among l.name (drop l.at l.spots)
