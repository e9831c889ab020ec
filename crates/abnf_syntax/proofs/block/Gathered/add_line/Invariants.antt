use Rattle.abnf_syntax.specs.own.Gather.{gathering_of}
use Rattle.abnf_syntax.proofs.GatherLaws.{HasMarked}
use Rattle.abnf_syntax.proofs.block.Gathered.add_line.Given as goal

abbrev pub invariant-loop-mark : goal.invariant-loop-mark
invariant-loop-mark l = HasMarked l.at l.line l.marks l.mark-index (gathering_of l.fn.self) (gathering_of l.self)
