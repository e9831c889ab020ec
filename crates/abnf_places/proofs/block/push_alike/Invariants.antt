use Rattle.std.proofs.Common.{◌≡◌, ◌++◌, map, drop}
use Rattle.abnf_parts.specs.Names.{folded_text}
use Rattle.abnf_names.specs.Places.{named_at}
use Rattle.abnf_places.specs.Wanted.{wanted_places}
use Rattle.abnf_places.proofs.block.push_alike.Given as goal

-- what is left gives the places that are left
abbrev pub invariant-loop-spot : goal.invariant-loop-spot
invariant-loop-spot l =
    map named_at l.initial.spots ++ wanted_places l.sought.wanted (folded_text l.sought.name) (map named_at l.all) ≡ map named_at l.spots ++ wanted_places l.sought.wanted (folded_text l.sought.name) (map named_at (drop l.spot-index l.all))
