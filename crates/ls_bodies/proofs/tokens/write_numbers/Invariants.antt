use Rattle.ls_bodies.specs.Tokens.{count_json}
use Rattle.ls_bodies.proofs.Arrays.{ToFirst}
use Rattle.ls_bodies.proofs.tokens.write_numbers.Given as goal

abbrev pub invariant-loop-number : goal.invariant-loop-number
invariant-loop-number g l = ToFirst count_json l.numbers l.number-index (g.S.Serializer.written l.initial.out) (g.S.Serializer.written l.out)
