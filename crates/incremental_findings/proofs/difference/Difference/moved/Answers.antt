use Rattle.std.proofs.Common.{◌≡◌, length, arith, ◌∙◌}
use Rattle.incremental_findings.proofs.MoveLaws.{written, next_outside, one_moved, all_moved}
use Rattle.incremental_findings.proofs.difference.Difference.moved.Goals as goal

pub moved_place-found-requires : goal.moved_place-found-requires
moved_place-found-requires c =
    (next_outside c.args.self.now c.args.findings c.deref_mut-found-items.result.now c.loop-found.found-items c.loop-found.found-index c.found-item.result
    (c.deref_mut-found-items.ensures.value ∙ c.into_vec-findings.ensures) c.loop-found-test.true c.loop-found.invariant c.requires).0

pub moved_code-found-requires : goal.moved_code-found-requires
moved_code-found-requires c =
    (next_outside c.args.self.now c.args.findings c.deref_mut-found-items.result.now c.loop-found.found-items c.loop-found.found-index c.found-item.result
    (c.deref_mut-found-items.ensures.value ∙ c.into_vec-findings.ensures) c.loop-found-test.true c.loop-found.invariant c.requires).1

pub loop-found-preserved : goal.loop-found-preserved
loop-found-preserved c =
    one_moved c.args.self.now c.deref_mut-found-items.result.now c.loop-found.found-items c.loop-found.found-index c.found-item.result
    c.moved_place-found.result c.moved_code-found.result c.loop-found-test.true c.found-item.is
    c.moved_place-found.ensures c.moved_code-found.ensures c.loop-found.invariant

pub returns : goal.returns
returns c =
    let vec = c.into_vec-findings.result in
    let count : length c.loop-found.found-items ≡ vec.len = omega (arith, c.loop-found.auto.found-items, c.deref_mut-found-items.ensures.len) in
    c.from_vec.ensures ∙ written vec.len c.loop-found.found-items _ count ∙ all_moved c.args.self.now c.args.findings c.deref_mut-found-items.result.now
    c.loop-found.found-items c.loop-found.found-index (c.deref_mut-found-items.ensures.value ∙ c.into_vec-findings.ensures)
    c.loop-found-test.false c.loop-found.invariant
