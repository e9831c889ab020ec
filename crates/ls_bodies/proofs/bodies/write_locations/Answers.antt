use Rattle.std.proofs.Common.{arith}
use Rattle.std.proofs.lemmas.Result.{on_ok_weaker}
use Rattle.ls_bodies.specs.Bodies.{location_json}
use Rattle.ls_bodies.proofs.Arrays.{next, whole}
use Rattle.ls_bodies.proofs.bodies.write_locations.Goals as goal

pub loop-range-preserved : goal.loop-range-preserved
loop-range-preserved g c = next (location_json c.args.uri.now) c.args.ranges.now c.loop-range.range-index _ _ _ _ (omega arith) c.loop-range.invariant c.in_ok-write_location.ensures

pub returns : goal.returns
returns g c =
    on_ok_weaker c.end_seq.result (λ e.
    whole (location_json c.args.uri.now) c.args.ranges.now c.loop-range.range-index _ _ _ _ (omega arith) c.in_ok-begin_seq.ensures c.loop-range.invariant e) c.end_seq.ensures
