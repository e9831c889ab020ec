use Rattle.std.proofs.Common.{◌≡◌, ◌+◌, drop}
use Rattle.abnf_syntax.specs.Blocks.{indent}
use Rattle.published_blocks.proofs.line.indent.Given as goal

abbrev pub invariant-loop-at : goal.invariant-loop-at
invariant-loop-at l = indent l.line ≡ l.at + indent (drop l.at l.line)
