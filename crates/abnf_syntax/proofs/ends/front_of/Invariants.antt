use Rattle.std.proofs.Common.{◌≡◌, List, take}
use Rattle.abnf_syntax.specs.own.Ends.{View, AreSeen, front_views}
use Rattle.abnf_syntax.proofs.ends.front_of.Given as goal

-- the first items of the lines so far
abbrev pub invariant-loop-at : goal.invariant-loop-at
invariant-loop-at l = (seen : List View) → AreSeen l.sheet l.first l.at seen → front_views l.front ≡ take 2 seen
