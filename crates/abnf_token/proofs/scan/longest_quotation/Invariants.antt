use Rattle.std.proofs.Common.{◌≡◌, drop, None}
use Rattle.abnf_token.specs.declared.machine.State.TheVariants.{Start, Quote}
use Rattle.abnf_token.specs.own.Machine.{munch}
use Rattle.abnf_token.proofs.scan.longest_quotation.Given as goal

abbrev pub invariant-loop-i : goal.invariant-loop-i
invariant-loop-i l = munch Quote l.i None (drop l.i l.bytes) ≡ munch Start 0 None l.bytes
