use Rattle.std.proofs.Common.{List, subst}
use Rattle.std.specs.BinaryHeap.{heap_items}
use Rattle.abnf_least.specs.declared.candidate.Candidate.{Candidate}
use Rattle.abnf_least.specs.own.Queue.{IsFirstCandidate}
use Rattle.abnf_least.proofs.Rows.{heap_first}
use Rattle.abnf_least.proofs.heap.Heap.first.Goals as goal

pub returns-in-Some-clause-some : goal.returns-in-Some-clause-some
returns-in-Some-clause-some c =
    subst (λ (all : List Candidate). IsFirstCandidate all c.in-Some.field-0.now.0) c.self.view_is
    (heap_first (heap_items c.self.inside.heap) c.in-Some.field-0.now c.in-Some.ensures.item.3.0 c.in-Some.ensures.lookup (c.in-Some.ensures.greatest c.self.invariant))
