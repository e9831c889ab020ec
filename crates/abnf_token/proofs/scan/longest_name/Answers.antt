use Rattle.std.proofs.Common.{get_or, Some, sym, ◌∙◌}
use Rattle.abnf_token.specs.declared.token.Kind.TheVariants as k
use Rattle.abnf_token.specs.declared.machine.State.TheVariants.{Name}
use Rattle.abnf_token.proofs.Runs.{stopped, ends_name}
use Rattle.abnf_token.proofs.scan.longest_name.Goals as goal

pub returns-then-not-is_name_byte : goal.returns-then-not-is_name_byte
returns-then-not-is_name_byte c =
    stopped Name c.loop-i.i (Some (k.Name, c.loop-i.i)) c.args.bytes.now c.loop-i-test.true (ends_name (get_or c.args.bytes.now c.loop-i.i 0) (sym c.is_name_byte.ensures ∙ c.if-not-is_name_byte.true)) ∙ c.loop-i.invariant
