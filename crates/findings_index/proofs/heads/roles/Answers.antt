use Rattle.std.proofs.Common.{◌∙◌, length, arith, ap}
use Rattle.std.specs.Prelude.{replicate, false}
use Rattle.findings_index.specs.own.HeadRoles.{seen_with, based_with}
use Rattle.findings_index.proofs.HeadMarks.{no_roles_of, one_more_of, role_read, roles_are}
use Rattle.findings_index.proofs.heads.roles.Goals as goal

pub loop-block-init : goal.loop-block-init
loop-block-init c =
    no_roles_of (length c.args.names.now) c.args.blocks.now c.in_ok-seen.seen.items c.in_ok-based.based.items c.in_ok-roles.roles.items
    (c.in_ok-seen.ensures.items_if_clones_equal (λ y e. e) ∙ ap (λ n. replicate n false) c.len-count.ensures)
    (c.in_ok-based.ensures.items_if_clones_equal (λ y e. e) ∙ ap (λ n. replicate n false) c.len-count.ensures)
    c.in_ok-roles.ensures.items

pub loop-block-preserved : goal.loop-block-preserved
loop-block-preserved c =
    one_more_of (length c.args.names.now) c.args.blocks.now c.loop-block.block-index c.loop-block.seen.items c.loop-block.based.items c.loop-block.roles.items
    c.loop-block.invariant _ c.loop-block-test.true c.see.new.seen c.base.new.based c.push.new.self.items c.role_in-role.result
    (c.see.ensures ∙ ap (seen_with _) c.deref_mut.ensures.value)
    (c.base.ensures ∙ ap (based_with _) c.deref_mut-in-loop-block.ensures.value)
    (role_read _ c.loop-block.seen.items c.deref.result.now c.loop-block.based.items c.deref-in-loop-block.result.now c.role_in-role.result
    c.role_in-role.ensures c.deref.ensures.value c.deref-in-loop-block.ensures.value)
    c.in_ok-push.ensures.items c.loop-block.seen.len c.loop-block.based.len c.loop-block.seen.ok.0 c.loop-block.based.ok.0

pub returns-clause-one_each : goal.returns-clause-one_each
returns-clause-one_each c = omega (arith, c.loop-block.invariant.one_each, c.loop-block-test.false, c.loop-block.auto.block-index-end)

pub returns-clause-roles : goal.returns-clause-roles
returns-clause-roles c = λ words digests stored.
    roles_are c.args.names.now words c.args.blocks.now digests c.loop-block.block-index c.loop-block.seen.items c.loop-block.based.items c.loop-block.roles.items
    c.loop-block.invariant (omega (arith, c.loop-block-test.false)) stored
