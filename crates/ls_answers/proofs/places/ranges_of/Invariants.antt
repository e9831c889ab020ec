use Rattle.std.proofs.Common.{◌≡◌, ◌++◌, drop, map}
use Rattle.abnf_names.specs.Places.{named_at}
use Rattle.abnf_parts.specs.Names.{folded_text}
use Rattle.ls_answers.specs.Places.{ranges_of}
use Rattle.ls_answers.proofs.places.ranges_of.Given as goal

abbrev pub invariant-loop-spot : goal.invariant-loop-spot
invariant-loop-spot l = record {
  text : l.ruler ≡ record { text = l.snapshot; encoding = l.fn.encoding };
  told : ranges_of l.fn.encoding l.wanted l.snapshot (folded_text l.name) (map named_at l.spots) ≡ l.ranges ++ ranges_of l.fn.encoding l.wanted l.snapshot (folded_text l.name) (map named_at (drop l.spot-index l.spots));
}
