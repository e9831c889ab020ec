use Rattle.std.proofs.Common.{◌≡◌, ◌++◌, map, drop}
use Rattle.std.specs.Prelude.{flat_map}
use Rattle.abnf_names.specs.Places.{named_at, places_in}
use Rattle.abnf_places.proofs.block.spots_in.Given as goal

-- what is left gives the places that are left
abbrev pub invariant-loop-block : goal.invariant-loop-block
invariant-loop-block l = flat_map (λ block. places_in block.items) l.blocks ≡ map named_at l.spots ++ flat_map (λ block. places_in block.items) (drop l.block-index l.blocks)
