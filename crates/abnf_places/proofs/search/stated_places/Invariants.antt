use Rattle.std.proofs.Common.{◌-◌, map}
use Rattle.abnf_names.specs.Places.{named_at}
use Rattle.abnf_parts.specs.Names.{folded_text}
use Rattle.abnf_places.proofs.Passing.{IsAtBlock}
use Rattle.abnf_places.proofs.search.stated_places.Given as goal

abbrev pub invariant-blocks-2 : goal.invariant-blocks-2
invariant-blocks-2 l = IsAtBlock l.sheet l.fn.wanted (folded_text l.name) l.first (map named_at l.spots)

abbrev pub decreases-blocks-2 : goal.decreases-blocks-2
decreases-blocks-2 l = l.count - l.first
