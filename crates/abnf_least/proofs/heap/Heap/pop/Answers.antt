use Rattle.std.proofs.Common.{subst, sym, IfSome}
use Rattle.std.specs.BinaryHeap.{heap_items}
use Rattle.abnf_least.specs.own.Queue.{LeavesQueue}
use Rattle.abnf_least.proofs.Queued.{candidates, left}
use Rattle.abnf_least.proofs.heap.Heap.pop.Goals as goal
use Rattle.abnf_least.proofs.heap.Heap.pop.Goals.{in-Some, in-None}

pub returns-clause-some : goal.returns-clause-some
returns-clause-some c =
    elim c.match-pop.branch [
      | in-Some w ↦
          subst (λ r. IfSome r (λ x. LeavesQueue c.args.self.now x (candidates (heap_items c.pop.new.self)))) (sym w.result-is)
          (subst (λ q. LeavesQueue q w.in-Some.field-0.0 (candidates (heap_items c.pop.new.self))) c.self.view_is
          (left (heap_items c.self.inside.heap) (heap_items c.pop.new.self) w.in-Some.field-0.0 w.in-Some.ensures.permutation (w.in-Some.ensures.heap_order c.self.invariant).1))
      | in-None w ↦ subst (λ r. IfSome r (λ x. LeavesQueue c.args.self.now x (candidates (heap_items c.pop.new.self)))) (sym w.result-is) tt
    ]
