use Rattle.std.proofs.Common.{arith}
use Rattle.draft_grammars.specs.Places.{outward_range}
use Rattle.draft_grammars.proofs.CarryLaws.{written_over}
use Rattle.draft_grammars.proofs.places.SourceMap.carry_ranges.Goals as goal

pub loop-range-preserved : goal.loop-range-preserved
loop-range-preserved c =
    written_over (outward_range c.args.self.now) c.args.ranges.now c.loop-range.ranges c.loop-range.range-index _ _
    (omega (arith, c.loop-range-test.true)) c.loop-range.invariant
    c.outward_range.ensures
