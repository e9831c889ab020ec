use Rattle.std.proofs.Common.{◌≡◌, drop}
use Rattle.abnf_syntax.specs.Fitting.{fit}
use Rattle.abnf_syntax.proofs.number.are_small.Given as goal

-- what is left decides
abbrev pub invariant-loop-byte : goal.invariant-loop-byte
invariant-loop-byte l = fit l.base 0 l.bytes ≡ fit l.base l.value (drop l.byte-index l.bytes)
