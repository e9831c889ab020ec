use Rattle.std.proofs.Common.{◌≡◌, ◌++◌, drop}
use Rattle.findings_index.specs.own.Flags as spec
use Rattle.findings_index.proofs.outcome.flags.Given as goal

-- what is left gives the flags that are left
abbrev pub invariant-loop-block : goal.invariant-loop-block
invariant-loop-block l = spec.flags l.held l.led l.blocks l.roles ≡ l.flags.items ++ spec.flags l.held l.led (drop l.block-index l.blocks) l.left
