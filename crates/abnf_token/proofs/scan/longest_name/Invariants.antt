use Rattle.std.proofs.Common.{◌≡◌, drop, Some, None}
use Rattle.abnf_token.specs.declared.token.Kind.TheVariants as k
use Rattle.abnf_token.specs.declared.machine.State.TheVariants.{Start, Name}
use Rattle.abnf_token.specs.own.Machine.{munch}
use Rattle.abnf_token.proofs.scan.longest_name.Given as goal

abbrev pub invariant-loop-i : goal.invariant-loop-i
invariant-loop-i l = munch Name l.i (Some (k.Name, l.i)) (drop l.i l.bytes) ≡ munch Start 0 None l.bytes
