use Rattle.std.proofs.Common.{◌≡◌, ◌++◌, map, take, drop}
use Rattle.draft_grammars.specs.Places.{outward_range}
use Rattle.draft_grammars.proofs.places.SourceMap.carry_ranges.Given as goal

abbrev pub invariant-loop-range : goal.invariant-loop-range
invariant-loop-range l = l.ranges ≡ map (outward_range l.self) (take l.range-index l.initial.ranges) ++ drop l.range-index l.initial.ranges
