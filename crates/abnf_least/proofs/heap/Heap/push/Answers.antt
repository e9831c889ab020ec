use Rattle.std.proofs.Common.{subst}
use Rattle.std.specs.BinaryHeap.{heap_items}
use Rattle.abnf_least.specs.own.Queue.{JoinsQueue}
use Rattle.abnf_least.proofs.Queued.{candidates, joined}
use Rattle.abnf_least.proofs.heap.Heap.push.Goals as goal

pub returns : goal.returns
returns c =
    subst (λ q. JoinsQueue q c.args.candidate (candidates (heap_items c.push.new.self))) c.self.view_is
    (joined (heap_items c.self.inside.heap) (heap_items c.push.new.self) c.args.candidate c.in_ok-push.ensures.permutation)
