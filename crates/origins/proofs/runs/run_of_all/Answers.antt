use Rattle.std.proofs.Common.{◌≡◌, ◌+◌, ◌-◌, ◌<◌, true, false, leb, rules, subst, sym, ◌∙◌, arith}
use Rattle.std.specs.List.Sorted.{IsPartitionPoint}
use Rattle.std.proofs.lemmas.List.Sorted.{IsPartitionPoint-from_clause, IsPartitionedBy-leb}
use borrow.Author.Tests.{tests}
use Rattle.origins.specs.declared.runs.Run.{Run}
use Rattle.origins.proofs.RunLaws.{run_at_between}
use Rattle.origins.proofs.runs.run_of_all.Goals as goal

pub returns-then-first-last : goal.returns-then-first-last
returns-then-first-last c =
    let runs = c.args.runs.now in
    let end = c.args.offset + c.args.count - 1 in
    let point = IsPartitionPoint-from_clause (λ (r : Run). leb r.begins c.args.offset) runs c.partition_point-first.result c.partition_point-first.ensures.partitioned (IsPartitionedBy-leb (λ (r : Run). r.begins) runs c.args.offset c.requires.ordered) (λ a r f q. search (rules, tests)) in
    let other = IsPartitionPoint-from_clause (λ (r : Run). leb r.begins end) runs c.partition_point-last.result c.partition_point-last.ensures.partitioned (IsPartitionedBy-leb (λ (r : Run). r.begins) runs end c.requires.ordered) (λ a r f q. search (rules, tests)) in
    let same = subst (λ i. IsPartitionPoint (λ (r : Run). leb r.begins end ≡ true) (λ (r : Run). leb r.begins end ≡ false) runs i) (sym c.if-first-last.true) other in
    let some : 0 < c.args.count = omega (arith, c.if-count-eq0.false) in
    (some, λ k lt. run_at_between runs c.partition_point-first.result c.args.offset end (c.args.offset + k) c.partition_point-first.ensures.bound point same (omega arith) (omega (arith, lt)) ∙ sym c.last_of.ensures)
