use Rattle.ls_bodies.specs.Bodies.{symbol_json}
use Rattle.ls_bodies.proofs.Arrays.{ToFirst}
use Rattle.ls_bodies.proofs.bodies.write_symbols.Given as goal

abbrev pub invariant-loop-symbol : goal.invariant-loop-symbol
invariant-loop-symbol g l = ToFirst symbol_json l.symbols l.symbol-index (g.S.Serializer.written l.initial.out) (g.S.Serializer.written l.out)
