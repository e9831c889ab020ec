use Rattle.std.proofs.Common.{◌≡◌, None, drop}
use Rattle.std.specs.Prelude.{fold}
use Rattle.abnf_parts.specs.Leaf.{numbers_from, with_end}
use Rattle.abnf_parts.proofs.leaf.first_ends.Given as goal

-- what is left gives the ends that are left
abbrev pub invariant-loop-byte : goal.invariant-loop-byte
invariant-loop-byte l = fold with_end (None, None) (numbers_from l.base 0 l.digits) ≡ fold with_end l.ends (numbers_from l.base l.number (drop l.byte-index l.digits))
