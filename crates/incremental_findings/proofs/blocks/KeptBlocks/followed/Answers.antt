use Rattle.std.proofs.Common.{ap, arith, length, rules, subst, sym}
use Rattle.std.proofs.lemmas.List.Sorted.{IsPartitionPoint-from_clause}
use Rattle.findings_index.specs.KeptBlocks.{IsKeptOf}
use Rattle.incremental_findings.proofs.FollowedBlocks.{begins_early, can_follow, kept_more}
use Rattle.incremental_findings.proofs.blocks.KeptBlocks.followed.Goals as goal

pub read-requires : goal.read-requires
read-requires c = record {
  order = c.requires.replaced.order.1;
  seams = (c.requires.replaced.fronts.1, c.requires.replaced.backs.1);
  before = (
    subst (IsKeptOf c.args.ours.now) (sym c.self.view_is) c.requires.kept,
    record { part = c.requires.lines; base = c.requires.replaced.base; tokens = c.requires.tokens },
    c.partition_point-to.ensures.bound,
    ap length c.blocks-blocks.ensures,
  );
}

pub overflow_sub-come : goal.overflow_sub-come
overflow_sub-come c =
    let more = kept_more c.args.ours.now c.args.theirs.now c.args.change.now.blocks.front c.args.change.now.blocks.new c.self.inside.digests c.args.self c.read.new.digests c.self.view_is c.requires.kept (c.in_ok-read.ensures.added c.if-not-branch.false) in
    omega (arith, more, ap length c.blocks-2.ensures, ap length c.blocks-blocks.ensures)

pub replace-requires : goal.replace-requires
replace-requires c =
    let part = c.args.change.now.blocks in
    let h =
    can_follow c.args.ours.now c.args.theirs.now part.front part.old part.new c.self.inside.digests c.args.self c.read.new.digests c.blocks-blocks.result.now c.blocks-2.result.now
    c.partition_point-from.result c.partition_point-to.result c.requires.replaced (omega (arith, c.count.ensures, c.if-count-gt-MOST_LINES.false)) c.self.view_is c.requires.kept (c.in_ok-read.ensures.added c.if-not-branch.false) c.blocks-blocks.ensures
    c.blocks-2.ensures c.partition_point-from.ensures.bound c.partition_point-to.ensures.bound
    (λ parted. IsPartitionPoint-from_clause (begins_early part.front) _ _ c.partition_point-from.ensures.partitioned parted (λ a r q k. search rules))
    (λ parted. IsPartitionPoint-from_clause (begins_early part.old) _ _ c.partition_point-to.ensures.partitioned parted (λ a r q k. search rules))
    in
    record { order = h.order; within = h.within; lines = h.lines }

pub returns : goal.returns
returns c =
    let part = c.args.change.now.blocks in
    let h =
    can_follow c.args.ours.now c.args.theirs.now part.front part.old part.new c.self.inside.digests c.args.self c.read.new.digests c.blocks-blocks.result.now c.blocks-2.result.now
    c.partition_point-from.result c.partition_point-to.result c.requires.replaced (omega (arith, c.count.ensures, c.if-count-gt-MOST_LINES.false)) c.self.view_is c.requires.kept (c.in_ok-read.ensures.added c.if-not-branch.false) c.blocks-blocks.ensures
    c.blocks-2.ensures c.partition_point-from.ensures.bound c.partition_point-to.ensures.bound
    (λ parted. IsPartitionPoint-from_clause (begins_early part.front) _ _ c.partition_point-from.ensures.partitioned parted (λ a r q k. search rules))
    (λ parted. IsPartitionPoint-from_clause (begins_early part.old) _ _ c.partition_point-to.ensures.partitioned parted (λ a r q k. search rules))
    in
    subst (IsKeptOf c.args.theirs.now) (sym c.replace.ensures) h.kept
