use Rattle.std.proofs.Common.{◌≡◌, ◌++◌, map, drop}
use Rattle.abnf_names.specs.Places.{named_at, uses_after}
use Rattle.abnf_names.proofs.place.push_places.Given as goal

-- what is left gives the places that are left
abbrev pub invariant-loop-item : goal.invariant-loop-item
invariant-loop-item l =
    map named_at l.initial.spots ++ uses_after l.initial.before l.rest ≡ map named_at l.spots ++ uses_after l.before (drop l.item-index l.rest)
