use Rattle.std.proofs.Common.{arith}
use Rattle.std.proofs.lemmas.Result.{on_ok_weaker}
use Rattle.ls_bodies.specs.Tokens.{count_json}
use Rattle.ls_bodies.proofs.Arrays.{next, whole}
use Rattle.ls_bodies.proofs.tokens.write_numbers.Goals as goal

pub loop-number-preserved : goal.loop-number-preserved
loop-number-preserved g c = next count_json c.args.numbers.now c.loop-number.number-index _ _ _ _ (omega arith) c.loop-number.invariant c.in_ok-serialize.ensures

pub returns : goal.returns
returns g c =
    on_ok_weaker c.end_seq.result (λ e.
    whole count_json c.args.numbers.now c.loop-number.number-index _ _ _ _ (omega arith) c.in_ok-begin_seq.ensures c.loop-number.invariant e) c.end_seq.ensures
