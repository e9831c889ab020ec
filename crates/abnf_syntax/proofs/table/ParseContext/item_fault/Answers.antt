use Rattle.std.proofs.Common.{rules}
use Rattle.abnf_syntax.specs.own.Check.{fault_behind}
use Rattle.abnf_syntax.proofs.table.ParseContext.item_fault.Goals as goal

pub returns : goal.returns
unfolding fault_behind
returns = search rules depth 2

pub returns-2 : goal.returns-2
unfolding fault_behind
returns-2 = search rules depth 2

pub returns-then-not-numbers_fit : goal.returns-then-not-numbers_fit
unfolding fault_behind
returns-then-not-numbers_fit = search rules depth 2

pub returns-then-self-ge-MAX_NESTING : goal.returns-then-self-ge-MAX_NESTING
unfolding fault_behind
returns-then-self-ge-MAX_NESTING = search rules depth 2
