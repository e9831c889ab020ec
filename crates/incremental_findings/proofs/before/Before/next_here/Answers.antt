use Rattle.std.proofs.Common.{rules, subst}
use Rattle.std.proofs.lemmas.List.Sorted.{IsPartitionPoint-from_clause}
use Rattle.incremental_findings.proofs.BeforeLaws.{Told, told_by, next_some, next_none, some_there, none_there}
use Rattle.incremental_findings.proofs.FollowedBlocks.{begins_early}
use Rattle.incremental_findings.proofs.before.Before.next_here.Goals as goal

pub returns-in-Some : goal.returns-in-Some
returns-in-Some c =
    let ls = c.args.self.now.sheet.now in
    let told =
    told_by ls c.args.from c.requires.blocks.table c.requires.blocks.words _ c.requires.blocks.bounds c.requires.blocks.blocks c.partition_point-place.result
    c.requires.blocks.all c.requires.blocks.each c.partition_point-place.ensures.bound
    (λ parted. IsPartitionPoint-from_clause (begins_early c.args.from) _ _ c.partition_point-place.ensures.partitioned parted (λ a r q k. search rules))
    in
    next_some ls c.args.from c.args.to c.min.result c.in-Some.block.now c.requires.order c.min.ensures (subst (Told ls c.args.from 0) (some_there _ c.partition_point-place.result c.in-Some.block.now c.in-Some.ensures.lookup.0 c.in-Some.ensures.lookup.1) told)

pub returns-in-None : goal.returns-in-None
returns-in-None c =
    let ls = c.args.self.now.sheet.now in
    let told =
    told_by ls c.args.from c.requires.blocks.table c.requires.blocks.words _ c.requires.blocks.bounds c.requires.blocks.blocks c.partition_point-place.result
    c.requires.blocks.all c.requires.blocks.each c.partition_point-place.ensures.bound
    (λ parted. IsPartitionPoint-from_clause (begins_early c.args.from) _ _ c.partition_point-place.ensures.partitioned parted (λ a r q k. search rules))
    in
    next_none ls c.args.from c.args.to c.requires.order c.requires.within (subst (Told ls c.args.from 0) (none_there _ c.partition_point-place.result c.in-None.ensures.lookup.0) told)
