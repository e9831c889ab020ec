-- Which places of a name are wanted.
use Rattle.std.specs.Prelude.{List, filter, Bool, true, not}
use Rattle.abnf_parts.specs.Names.{Name}
use Rattle.abnf_names.specs.Places.{Named, places_of_name}
use Rattle.abnf_places.specs.declared.wanted.Wanted.{Wanted}
use Rattle.abnf_places.specs.declared.wanted.Wanted.TheVariants.{Definitions, Uses, Both}

-- whether a place that defines its name, or one that doesn't, is wanted: the definitions alone, the others alone, or both
abbrev pub is_wanted : Wanted → Bool → Bool
is_wanted Definitions defines = defines
is_wanted Uses defines = not defines
is_wanted Both defines = true

-- the wanted places of a name among these, in their order
abbrev pub wanted_places : Wanted → Name → List Named → List Named
wanted_places wanted name places = filter (λ named. is_wanted wanted named.defines) (places_of_name name places)
