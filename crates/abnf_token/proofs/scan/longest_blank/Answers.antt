use Rattle.std.proofs.Common.{get_or, Some, sym, ◌∙◌}
use Rattle.abnf_token.specs.declared.token.Kind.TheVariants as k
use Rattle.abnf_token.specs.declared.machine.State.TheVariants.{Blank}
use Rattle.abnf_token.proofs.Runs.{stopped, ends_blank}
use Rattle.abnf_token.proofs.scan.longest_blank.Goals as goal

pub returns-then-not-is_blank_byte : goal.returns-then-not-is_blank_byte
returns-then-not-is_blank_byte c =
    stopped Blank c.loop-i.i (Some (k.Blank, c.loop-i.i)) c.args.bytes.now c.loop-i-test.true (ends_blank (get_or c.args.bytes.now c.loop-i.i 0) (sym c.is_blank_byte.ensures ∙ c.if-not-is_blank_byte.true)) ∙ c.loop-i.invariant
