use Rattle.abnf_syntax.specs.own.Gather.{gathering_of, HasLines}
use Rattle.abnf_syntax.proofs.block.items_of.Given as goal

abbrev pub invariant-loop-at : goal.invariant-loop-at
invariant-loop-at l = HasLines l.sheet l.first l.at (gathering_of l.gathered)
