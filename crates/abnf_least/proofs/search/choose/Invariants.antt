use Rattle.abnf_least.specs.own.Search.{form_at}
use Rattle.abnf_least.proofs.Chosen.{ChosenUpTo}
use Rattle.abnf_least.proofs.search.choose.Given as goal

abbrev pub invariant-loop-number : goal.invariant-loop-number
invariant-loop-number l = ChosenUpTo (form_at l.grammar.rules) l.fn.table l.table l.number
