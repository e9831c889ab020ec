use Rattle.std.proofs.Common.{◌≡◌, ◌≤◌, length, drop, nat_eq}
use Rattle.std.specs.Cmp.Lexicographic.{pointwise}
use Rattle.abnf_token.specs.Folded.{lowercase}
use Rattle.abnf_token.proofs.folded.are_alike.Given as goal

abbrev pub invariant-loop-i : goal.invariant-loop-i
invariant-loop-i l =
    (l.i ≤ length l.b) × (pointwise nat_eq (lowercase l.a) (lowercase l.b) ≡ pointwise nat_eq (lowercase (drop l.i l.a)) (lowercase (drop l.i l.b)))
