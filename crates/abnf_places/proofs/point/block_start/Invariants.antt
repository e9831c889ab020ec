use Rattle.std.proofs.Common.{suc}
use Rattle.abnf_syntax.specs.Blocks.{NoneBegins}
use Rattle.abnf_places.proofs.point.block_start.Given as goal

-- no line that has been looked at begins a block
abbrev pub invariant-loop-at : goal.invariant-loop-at
invariant-loop-at l = NoneBegins l.sheet l.at (suc l.line)
