use Rattle.std.proofs.Common.{◌≡◌, ◌++◌, drop}
use Rattle.abnf_parts.specs.Leaf.{numbers_from}
use Rattle.abnf_parts.proofs.leaf.numbers.Given as goal

-- what is left gives the numbers that are left
abbrev pub invariant-loop-byte : goal.invariant-loop-byte
invariant-loop-byte l = numbers_from l.base 0 l.digits ≡ l.numbers ++ numbers_from l.base l.number (drop l.byte-index l.digits)
