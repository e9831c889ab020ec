use Rattle.std.proofs.Common.{◌≡◌, ◌≤◌, List, []}
use Rattle.abnf_syntax.specs.own.Ends.{View, AreSeen}
use Rattle.abnf_syntax.proofs.ends.last_of.Given as goal

-- No item stands in the lines from there on.
abbrev pub invariant-loop-at : goal.invariant-loop-at
invariant-loop-at l = record { reached : l.first ≤ l.at; none : (seen : List View) → AreSeen l.sheet l.at l.end seen → seen ≡ [] }
