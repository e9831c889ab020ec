use Rattle.findings_index.proofs.PendingLaws.{marked_here, read_at}
use Rattle.findings_index.proofs.pending.visit_at.Goals as goal

pub returns-then-branch-clause-some : goal.returns-then-branch-clause-some
returns-then-branch-clause-some c =
    let blocks = c.args.swept.now.blocks.now in
    let roles = c.args.swept.now.roles.now in
    let place = c.args.place in
    let block = c.in-Some.block.now in
    let role = c.in-Some-get.role.now in
    marked_here c.args.way c.args.swept.now.words.now blocks roles c.args.marks.now c.visit.new.marks place block role c.in-Some-head.head
    (read_at blocks place block c.in-Some.ensures.lookup.0 c.in-Some.ensures.lookup.1) (read_at roles place role c.in-Some-get.ensures.lookup.0 c.in-Some-get.ensures.lookup.1)
    c.in-Some-head.is (c.in_ok-visit.ensures.marked c.if-branch.true)
