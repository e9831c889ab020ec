use Rattle.std.proofs.Common.{length}
use Rattle.abnf_cert.specs.Accepted.{entry_at}
use Rattle.abnf_least.specs.own.Search.{form_at, AllWait}
use Rattle.abnf_least.proofs.search.take_next.Given as goal

abbrev pub invariant-loop-candidate : goal.invariant-loop-candidate
invariant-loop-candidate l = AllWait (form_at l.grammar.rules) (entry_at l.table) l.queue

abbrev pub decreases-loop-candidate : goal.decreases-loop-candidate
decreases-loop-candidate l = length l.queue
