use Rattle.std.proofs.Common.{leb, rules, sym, ◌∙◌}
use Rattle.std.proofs.lemmas.List.Sorted.{IsPartitionPoint-from_clause, IsPartitionedBy-leb}
use borrow.Author.Tests.{tests}
use Rattle.origins.specs.declared.runs.Run.{Run}
use Rattle.origins.specs.own.Runs.{first_run}
use Rattle.origins.proofs.RunLaws.{run_at_split}
use Rattle.origins.proofs.runs.run_of.Goals as goal

pub returns : goal.returns
returns c =
    let sorted = IsPartitionedBy-leb (λ (r : Run). r.begins) c.args.runs.now c.args.offset c.requires.ordered in
    let point = IsPartitionPoint-from_clause (λ (r : Run). leb r.begins c.args.offset) c.args.runs.now c.partition_point.result c.partition_point.ensures.partitioned sorted (λ a r f q. search (rules, tests)) in
    c.last_of.ensures ∙ sym (run_at_split first_run first_run c.args.runs.now c.args.offset c.partition_point.result c.partition_point.ensures.bound point)
