use Rattle.abnf_cert.specs.Accepted.{entry_at}
use Rattle.abnf_least.specs.own.Search.{form_at}
use Rattle.abnf_least.proofs.Offers.{WaitUpTo}
use Rattle.abnf_least.proofs.search.start.Given as goal

abbrev pub invariant-loop-number : goal.invariant-loop-number
invariant-loop-number l = WaitUpTo (form_at l.grammar.rules) (entry_at l.table) l.number l.queue
