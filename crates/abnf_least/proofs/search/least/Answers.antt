use Rattle.std.proofs.Common.{◌≡◌, List, length, arith, subst, sym, ◌∙◌}
use Rattle.std.proofs.lemmas.List.{with_items_is}
use Rattle.abnf_cert.specs.declared.entry.Entry.{Entry}
use Rattle.abnf_cert.specs.Accepted.{IsAccepted}
use Rattle.abnf_least.specs.own.Search.{AreGiven}
use Rattle.abnf_least.proofs.Chosen.{accepted_chosen}
use Rattle.abnf_least.proofs.search.least.Goals as goal

pub returns : goal.returns
returns c =
    let trees = c.args.grammar.now.rules in
    let table = c.in_ok-table.table in
    let long : length c.choose.new.table ≡ table.len = omega arith in
    let given : AreGiven trees table.items c.choose.new.table = subst (λ (t : List Entry). AreGiven trees t c.choose.new.table) c.deref_mut.ensures.value c.choose.ensures in
    subst (λ (es : List Entry). IsAccepted trees es) (sym (c.new.ensures ∙ with_items_is table c.choose.new.table long))
    (accepted_chosen trees table.items c.choose.new.table c.in_ok-table.ensures given)
