use Rattle.std.proofs.Common.{◌≡◌, ◌++◌, map, drop}
use Rattle.std.specs.Prelude.{flat_map}
use Rattle.abnf_names.specs.Places.{named_at, places_in}
use Rattle.abnf_names.proofs.place.places_of.Given as goal

-- what is left gives the places that are left
abbrev pub invariant-loop-section : goal.invariant-loop-section
invariant-loop-section l =
    flat_map (λ section. places_in section.block.items) l.sections ≡ map named_at l.spots ++ flat_map (λ section. places_in section.block.items) (drop l.section-index l.sections)
