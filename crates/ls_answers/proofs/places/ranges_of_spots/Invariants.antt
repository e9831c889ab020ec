use Rattle.std.proofs.Common.{◌≡◌, ◌++◌, drop, map}
use Rattle.abnf_names.specs.Places.{named_at}
use Rattle.ls_answers.specs.Places.{name_range}
use Rattle.ls_answers.proofs.places.ranges_of_spots.Given as goal

abbrev pub invariant-loop-spot : goal.invariant-loop-spot
invariant-loop-spot l = record {
  text : l.ruler ≡ record { text = l.snapshot; encoding = l.fn.encoding };
  told : map (name_range l.fn.encoding l.snapshot) (map named_at l.spots) ≡ l.ranges ++ map (name_range l.fn.encoding l.snapshot) (map named_at (drop l.spot-index l.spots));
}
