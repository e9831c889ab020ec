use Rattle.ls_bodies.specs.Bodies.{location_json}
use Rattle.ls_bodies.proofs.Arrays.{ToFirst}
use Rattle.ls_bodies.proofs.bodies.write_locations.Given as goal

abbrev pub invariant-loop-range : goal.invariant-loop-range
invariant-loop-range g l = ToFirst (location_json l.uri) l.ranges l.range-index (g.S.Serializer.written l.initial.out) (g.S.Serializer.written l.out)
