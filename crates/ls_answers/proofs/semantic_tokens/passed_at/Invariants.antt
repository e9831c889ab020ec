use Rattle.std.proofs.Common.{◌≡◌, ◌-◌, ◌≤◌, drop, length, map}
use Rattle.abnf_names.specs.Places.{named_at}
use Rattle.ls_answers.specs.own.Walk.{from_point}
use Rattle.ls_answers.proofs.semantic_tokens.passed_at.Given as goal

-- what begins before the point is passed
abbrev pub invariant-passing : goal.invariant-passing
invariant-passing l = record {
  left : from_point l.line l.start (map named_at (drop l.passed l.spots)) ≡ from_point l.line l.start (map named_at (drop l.now l.spots));
  within : l.now ≤ length l.spots;
}

abbrev pub decreases-passing : goal.decreases-passing
decreases-passing l = length l.spots - l.now
