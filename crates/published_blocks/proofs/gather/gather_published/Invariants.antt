use Rattle.published_blocks.specs.own.Reads.{IsReadUpTo}
use Rattle.published_blocks.proofs.gather.gather_published.Given as goal

abbrev pub invariant-loop-at : goal.invariant-loop-at
invariant-loop-at l = IsReadUpTo l.text l.at l.reading l.found
