use Rattle.std.proofs.Common.{◌∙◌, ap, length}
use Rattle.std.specs.Prelude.{replicate, false}
use Rattle.findings_index.specs.own.HeadRoles.{seen_with}
use Rattle.findings_index.proofs.FlagLaws.{none_seen, one_seen_more, heads_are, defined_are}
use Rattle.findings_index.proofs.outcome.defined_marks.Goals as goal

pub loop-block-init : goal.loop-block-init
loop-block-init c =
    none_seen (length c.args.names.now) c.args.blocks.now c.in_ok-marks.marks.items
    (c.in_ok-marks.ensures.items_if_clones_equal (λ y e. e) ∙ ap (λ n. replicate n false) c.len.ensures)

pub loop-block-preserved : goal.loop-block-preserved
loop-block-preserved c =
    one_seen_more (length c.args.names.now) c.args.blocks.now c.loop-block.block-index c.loop-block.marks.items c.loop-block.invariant _ c.loop-block-test.true
    c.see.new.seen (c.see.ensures ∙ ap (seen_with _) c.deref_mut.ensures.value) c.loop-block.marks.len c.loop-block.marks.ok.0

pub returns-clause-heads : goal.returns-clause-heads
returns-clause-heads c = heads_are c.args.names.now c.args.blocks.now c.loop-block.block-index c.loop-block.marks.items c.loop-block.invariant c.loop-block-test.false

pub returns-clause-names : goal.returns-clause-names
returns-clause-names c = λ words digests stored.
    defined_are c.args.names.now words c.args.blocks.now c.loop-block.block-index c.loop-block.marks.items c.loop-block.invariant c.loop-block-test.false digests stored
