use Rattle.std.proofs.Common.{◌<◌, arith}
use Rattle.findings_index.specs.own.Pending.{MarksNext}
use Rattle.findings_index.specs.own.Ways.{count_unmarked}
use Rattle.findings_index.proofs.PendingLaws.{next_less, next_sound, some_of}
use Rattle.findings_index.proofs.pending.visit_all.Goals as goal

pub loop-pending-smaller : goal.loop-pending-smaller
loop-pending-smaller c =
    let way = c.args.way in
    let words = c.args.swept.now.words.now in
    let blocks = c.args.swept.now.blocks.now in
    let roles = c.args.swept.now.roles.now in
    let before = c.loop-pending.marks in
    let after = c.mark_next.new.marks in
    next_less way words blocks roles before after c.in-Some.name
    (some_of (λ name. MarksNext way words blocks roles before name after) c.in_ok-name.field-0 c.in-Some.name c.in-Some.is c.in_ok-name.ensures.some)

pub loop-pending-preserved : goal.loop-pending-preserved
loop-pending-preserved c =
    let way = c.args.way in
    let words = c.args.swept.now.words.now in
    let blocks = c.args.swept.now.blocks.now in
    let roles = c.args.swept.now.roles.now in
    let before = c.loop-pending.marks in
    let after = c.mark_next.new.marks in
    let name = c.in-Some.name in
    let next = some_of (λ n. MarksNext way words blocks roles before n after) c.in_ok-name.field-0 name c.in-Some.is c.in_ok-name.ensures.some in
    let less : count_unmarked after < count_unmarked before = next_less way words blocks roles before after name next in
    record {
      sound = λ table s. next_sound way words blocks roles table before after name next (c.loop-pending.invariant.sound table s);
      few = omega (arith, less, c.loop-pending.invariant.few);
    }
