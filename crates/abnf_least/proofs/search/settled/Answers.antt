use Rattle.std.proofs.Common.{◌≡◌, List, [], length, arith, subst, sym, ap, ◌∙◌}
use Rattle.std.specs.Prelude.{replicate}
use Rattle.std.proofs.lemmas.List.{with_items_is}
use Rattle.abnf_cert.specs.declared.entry.Entry.{Entry}
use Rattle.abnf_cert.specs.declared.entry.Entry.TheVariants.{Nothing}
use Rattle.abnf_cert.specs.Accepted.{entry_at}
use Rattle.abnf_least.specs.own.Search.{form_at, AllWait, IsSearchState}
use Rattle.abnf_least.proofs.SearchStep.{none_at, stands_at_start}
use Rattle.abnf_least.proofs.search.settled.Goals as goal

pub start-requires-clause-none : goal.start-requires-clause-none
start-requires-clause-none c n =
    ap (λ t. entry_at t n) (c.deref.ensures.value ∙ c.in_ok-table.ensures.items_if_clones_equal (λ y e. e)) ∙ none_at (length c.nodes-count.result.now) n

pub settle-requires-clause-stands : goal.settle-requires-clause-stands
settle-requires-clause-stands c =
    let trees = c.args.grammar.now.rules in
    let count = length c.nodes-count.result.now in
    let is : c.deref_mut.result.now ≡ replicate count Nothing = c.deref_mut.ensures.value ∙ c.in_ok-table.ensures.items_if_clones_equal (λ y e. e) in
    let same : c.deref.result.now ≡ c.deref_mut.result.now = c.deref.ensures.value ∙ sym c.deref_mut.ensures.value in
    stands_at_start trees c.deref_mut.result.now c.start.new.queue count is c.nodes-count.ensures.one_each (omega arith)
    (subst (λ (t : List Entry). AllWait (form_at trees) (entry_at t) c.start.new.queue) same c.in_ok-start.ensures)

pub returns : goal.returns
returns c =
    let long : length c.settle.new.table ≡ c.in_ok-table.table.len = omega arith in
    subst (λ (t : List Entry). IsSearchState c.args.grammar.now.rules t []) (sym (with_items_is c.in_ok-table.table c.settle.new.table long)) c.in_ok-settle.ensures
