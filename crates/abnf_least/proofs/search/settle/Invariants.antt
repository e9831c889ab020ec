use Rattle.abnf_least.specs.Table.{unsettled}
use Rattle.abnf_least.specs.own.Search.{IsSearchState}
use Rattle.abnf_least.proofs.search.settle.Given as goal

abbrev pub invariant-loop-next : goal.invariant-loop-next
invariant-loop-next l = IsSearchState l.grammar.rules l.table l.queue

abbrev pub decreases-loop-next : goal.decreases-loop-next
decreases-loop-next l = unsettled l.table
