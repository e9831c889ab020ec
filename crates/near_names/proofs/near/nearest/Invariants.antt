use Rattle.std.proofs.Common.{◌≡◌, ◌≤◌, length, map, drop}
use Rattle.std.specs.Prelude.{IfSome}
use Rattle.std.specs.Option.{option_map}
use Rattle.near_names.specs.Near.{distance, nearest}
use Rattle.near_names.proofs.near.nearest.Given as goal

abbrev pub invariant-loop-at : goal.invariant-loop-at
invariant-loop-at l = record {
  within : l.at ≤ length l.known;
  found : option_map (λ other. other.now) l.found ≡ nearest l.name (map (λ other. other.now) (drop l.at l.known));
  least : IfSome l.found (λ other. l.least ≡ distance l.name other.now);
}

abbrev pub decreases-loop-at : goal.decreases-loop-at
decreases-loop-at l = l.at
