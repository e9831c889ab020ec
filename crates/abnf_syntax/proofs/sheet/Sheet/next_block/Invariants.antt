use Rattle.abnf_syntax.specs.Blocks.{NoneBegins}
use Rattle.abnf_syntax.proofs.sheet.Sheet.next_block.Given as goal

abbrev pub invariant-loop-at : goal.invariant-loop-at
invariant-loop-at l = NoneBegins l.self l.from l.at
