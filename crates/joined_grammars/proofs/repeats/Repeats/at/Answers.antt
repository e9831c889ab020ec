use Rattle.std.proofs.Common.{◌≡◌, ◌∙◌, ◌≤◌, List, ap, length, rules, subst, sym}
use Rattle.std.specs.Prelude.{Some, nat_lt, slice_get}
use Rattle.std.specs.List.Sorted.{IsNonDecreasingBy}
use Rattle.std.proofs.lemmas.List.Sorted.{IsPartitionPoint-from_clause, IsPartitionedBy-ltb}
use Rattle.std.proofs.lemmas.Option.{gets}
use borrow.Author.Tests.{tests}
use Rattle.joined_grammars.specs.declared.repeats.Repeat.{Repeat}
use Rattle.joined_grammars.specs.Repeats.{repeat_at}
use Rattle.joined_grammars.proofs.RepeatLaws.{found_there, none_behind, none_there}
use Rattle.joined_grammars.proofs.repeats.Repeats.at.Goals as goal

pub returns-then-repeat-line : goal.returns-then-repeat-line
returns-then-repeat-line c =
    let found = c.as_slice-found.result.now in
    let seen : found ≡ c.args.self.now = c.as_slice-found.ensures ∙ c.self.view_is in
    let up : IsNonDecreasingBy (λ (r : Repeat). r.line) found = subst (λ (rs : List Repeat). IsNonDecreasingBy (λ r. r.line) rs) (sym c.as_slice-found.ensures) c.self.invariant in
    let point =
    IsPartitionPoint-from_clause (λ (r : Repeat). nat_lt r.line c.args.line) found c.partition_point-place.result c.partition_point-place.ensures.partitioned
    (IsPartitionedBy-ltb (λ (r : Repeat). r.line) found c.args.line up) (λ a r f q. search (rules, tests)) in
    let at : slice_get found c.partition_point-place.result ≡ Some c.in-Some.repeat.now = search (rules, gets) in
    found_there found c.args.line c.partition_point-place.result up point c.in-Some.repeat.now at c.if-repeat-line.true ∙ ap (λ rs. repeat_at rs c.args.line) seen

pub returns-else-repeat-line : goal.returns-else-repeat-line
returns-else-repeat-line c =
    let found = c.as_slice-found.result.now in
    let seen : found ≡ c.args.self.now = c.as_slice-found.ensures ∙ c.self.view_is in
    let up : IsNonDecreasingBy (λ (r : Repeat). r.line) found = subst (λ (rs : List Repeat). IsNonDecreasingBy (λ r. r.line) rs) (sym c.as_slice-found.ensures) c.self.invariant in
    let point =
    IsPartitionPoint-from_clause (λ (r : Repeat). nat_lt r.line c.args.line) found c.partition_point-place.result c.partition_point-place.ensures.partitioned
    (IsPartitionedBy-ltb (λ (r : Repeat). r.line) found c.args.line up) (λ a r f q. search (rules, tests)) in
    let at : slice_get found c.partition_point-place.result ≡ Some c.in-Some.repeat.now = search (rules, gets) in
    none_there found c.args.line c.partition_point-place.result up point c.in-Some.repeat.now at c.if-repeat-line.false ∙ ap (λ rs. repeat_at rs c.args.line) seen

pub returns-in-None : goal.returns-in-None
returns-in-None c =
    let found = c.as_slice-found.result.now in
    let seen : found ≡ c.args.self.now = c.as_slice-found.ensures ∙ c.self.view_is in
    let up : IsNonDecreasingBy (λ (r : Repeat). r.line) found = subst (λ (rs : List Repeat). IsNonDecreasingBy (λ r. r.line) rs) (sym c.as_slice-found.ensures) c.self.invariant in
    let point =
    IsPartitionPoint-from_clause (λ (r : Repeat). nat_lt r.line c.args.line) found c.partition_point-place.result c.partition_point-place.ensures.partitioned
    (IsPartitionedBy-ltb (λ (r : Repeat). r.line) found c.args.line up) (λ a r f q. search (rules, tests)) in
    let past : length found ≤ c.partition_point-place.result = search (rules, gets) in
    none_behind found c.args.line c.partition_point-place.result up point past ∙ ap (λ rs. repeat_at rs c.args.line) seen
