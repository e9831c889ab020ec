use Rattle.std.proofs.Common.{arith, subst}
use Rattle.std.proofs.lemmas.Result.{on_ok_weaker}
use Rattle.serde_json.specs.Events.{SendsValue}
use Rattle.ls_bodies.specs.Bodies.{symbol_json}
use Rattle.ls_bodies.proofs.Arrays.{next, whole}
use Rattle.ls_bodies.proofs.bodies.write_symbols.Goals as goal

pub loop-symbol-preserved : goal.loop-symbol-preserved
loop-symbol-preserved g c =
    next symbol_json c.args.symbols.now c.loop-symbol.symbol-index c.symbol-item.result _ _ _ (omega arith) c.loop-symbol.invariant
    (subst (λ symbol. SendsValue (symbol_json symbol) (g.S.Serializer.written c.loop-symbol.out) (g.S.Serializer.written c.write_symbol.new.out)) c.symbol-item.is c.in_ok-write_symbol.ensures)

pub returns : goal.returns
returns g c =
    on_ok_weaker c.end_seq.result (λ e.
    whole symbol_json c.args.symbols.now c.loop-symbol.symbol-index _ _ _ _ (omega arith) c.in_ok-begin_seq.ensures c.loop-symbol.invariant e) c.end_seq.ensures
