use Rattle.std.proofs.Common.{arith}
use Rattle.abnf_least.proofs.SearchStep.{room_more, stands_done, stands_more}
use Rattle.abnf_least.proofs.Height.{settle_one}
use Rattle.abnf_least.proofs.search.settle.Goals as goal

pub offer_all-requires-clause-room : goal.offer_all-requires-clause-room
offer_all-requires-clause-room c =
    room_more c.args.grammar.now.rules c.loop-next.table c.loop-next.queue c.take_next.new.queue c.in-Some.next c.loop-next.invariant c.in-Some.ensures.some

pub loop-next-smaller : goal.loop-next-smaller
loop-next-smaller c =
    let x = c.in-Some.next in
    let g = c.in-Some.ensures.some in
    let one = settle_one c.loop-next.table x.number x.length x.height 0 g.is_given.within g.is_given.waits in
    omega (arith, one)

pub loop-next-preserved : goal.loop-next-preserved
loop-next-preserved c =
    let x = c.in-Some.next in
    stands_more c.args.grammar.now.rules c.loop-next.table c.loop-next.queue c.take_next.new.queue c.offer_all.new.queue x c.args.users.now
    c.loop-next.invariant c.in-Some.ensures.some c.requires.users (omega arith) c.in_ok-offer_all.ensures.kept
    c.in_ok-offer_all.ensures.offered

pub returns : goal.returns
returns c = stands_done c.args.grammar.now.rules c.loop-next.table c.loop-next.queue c.loop-next.invariant c.in_default.ensures.none
