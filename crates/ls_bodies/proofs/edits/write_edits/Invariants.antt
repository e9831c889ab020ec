use Rattle.ls_bodies.specs.Edits.{edit_json}
use Rattle.ls_bodies.proofs.Arrays.{ToFirst}
use Rattle.ls_bodies.proofs.edits.write_edits.Given as goal

abbrev pub invariant-loop-range : goal.invariant-loop-range
invariant-loop-range g l = ToFirst (edit_json l.new) l.ranges l.range-index (g.S.Serializer.written l.initial.out) (g.S.Serializer.written l.out)
