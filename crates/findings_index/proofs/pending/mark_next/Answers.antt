use Rattle.std.proofs.Common.{◌≡◌, ◌∙◌}
use Rattle.findings_index.specs.own.Pending.{IsMarkedAt}
use Rattle.findings_index.proofs.PendingLaws.{next_found, none_of, some_of}
use Rattle.findings_index.proofs.pending.mark_next.Goals as goal

pub returns-in-Some-2-clause-some : goal.returns-in-Some-2-clause-some
returns-in-Some-2-clause-some c =
    let way = c.args.way in
    let words = c.args.swept.now.words.now in
    let blocks = c.args.swept.now.blocks.now in
    let roles = c.args.swept.now.roles.now in
    let before = c.loop-place.marks in
    let after = c.visit_at.new.marks in
    let place = c.in-Some.place in
    next_found way words blocks roles c.args.marks.now before after place c.in-Some-2.name c.loop-place.invariant
    (some_of (λ name. IsMarkedAt way words blocks roles before place name after) c.in_ok-name.field-0 c.in-Some-2.name c.in-Some-2.is c.in_ok-name.ensures.some)

pub loop-place-preserved : goal.loop-place-preserved
loop-place-preserved c = none_of (c.visit_at.new.marks ≡ c.loop-place.marks) c.in_ok-name.field-0 c.in_default-2.is c.in_ok-name.ensures.none ∙ c.loop-place.invariant
