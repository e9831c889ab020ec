use Rattle.std.proofs.Common.{map}
use Rattle.abnf_names.specs.Places.{named_at}
use Rattle.abnf_parts.specs.Names.{folded_text}
use Rattle.abnf_places.specs.declared.wanted.Wanted.TheVariants.{Definitions}
use Rattle.abnf_places.proofs.Passing.{IsPassed}
use Rattle.abnf_places.proofs.search.definitions_of.Given as goal

abbrev pub invariant-loop-at : goal.invariant-loop-at
invariant-loop-at l = IsPassed l.sheet Definitions (folded_text l.name) l.at (map named_at l.spots)
