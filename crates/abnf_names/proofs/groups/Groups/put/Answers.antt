use Rattle.std.proofs.Common.{◌∙◌, ◌+◌, sym, ap, length, [], ◌∷◌, ◌++◌, set, length-append, length-set}
use Rattle.abnf_parts.specs.Names.{folded_text}
use Rattle.abnf_names.specs.own.Passes.{members_of, members_in, if_same}
use Rattle.abnf_names.proofs.GroupLaws.{hit, miss}
use Rattle.abnf_parts.proofs.NameLaws.{with_there, with_new}
use Rattle.abnf_parts.proofs.Pushing.{on_ok}
use Rattle.abnf_names.proofs.groups.Groups.put.Goals as goal

pub invariant_of-self-in_err-at : goal.invariant_of-self-in_err-at
invariant_of-self-in_err-at g c = ap length c.in_err-at.ensures.same ∙ (c.self.invariant ∙ ap length (sym c.in_ok-reserve.ensures.items))

pub invariant_of-self-in-Some : goal.invariant_of-self-in-Some
invariant_of-self-in-Some g c =
    ap length (c.in_ok-at.ensures.names ∙ with_there (folded_text c.args.name) c.self.inside.names c.in-Some.at (sym c.in_ok-at.ensures.place ∙ c.in-Some.is))
    ∙ (c.self.invariant
    ∙ (ap length (sym c.in_ok-reserve.ensures.items) ∙ sym (length-set c.reserve.new.self.items c.in-Some.at c.push.new.self)))

pub invariant_of-self-in-None : goal.invariant_of-self-in-None
invariant_of-self-in-None g c =
    let name = folded_text c.args.name in
    let names = c.self.inside.names in
    let members = c.reserve.new.self.items in
    ap length (c.in_ok-at.ensures.names ∙ with_new name names (sym c.in_ok-at.ensures.place ∙ c.in-None.is))
    ∙ (length-append names (name ∷ [])
    ∙ (ap (λ n. n + 1) (c.self.invariant ∙ ap length (sym c.in_ok-reserve.ensures.items))
    ∙ (sym (length-append members (c.of.result ∷ []))
    ∙ sym (ap length c.push_reserved.ensures.items))))

pub returns-in-Some-clause-members : goal.returns-in-Some-clause-members
returns-in-Some-clause-members g c =
    let name = folded_text c.args.name in
    let names = c.self.inside.names in
    let members = c.reserve.new.self.items in
    let there = sym c.in_ok-at.ensures.place ∙ c.in-Some.is in
    on_ok c.push.result _ _
    (λ pushed m.
    ap (λ ns. members_in ns (set members c.in-Some.at c.push.new.self) m) (c.in_ok-at.ensures.names ∙ with_there name names c.in-Some.at there)
    ∙ (ap (λ list. members_in names (set members c.in-Some.at list) m) (pushed ∙ ap (λ list. list ++ c.args.item ∷ []) c.index_mut.ensures.value)
    ∙ (hit name c.args.item names members (c.self.invariant ∙ ap length (sym c.in_ok-reserve.ensures.items)) c.in-Some.at _ there m
    ∙ (ap (λ ls. members_in names ls m ++ if_same name m c.args.item) c.in_ok-reserve.ensures.items
    ∙ ap (λ groups. members_of groups m ++ if_same name m c.args.item) c.self.view_is))))
    c.push.ensures

pub returns-in-None-clause-members : goal.returns-in-None-clause-members
returns-in-None-clause-members g c m =
    let name = folded_text c.args.name in
    let names = c.self.inside.names in
    let members = c.reserve.new.self.items in
    let new = sym c.in_ok-at.ensures.place ∙ c.in-None.is in
    ap (λ ns. members_in ns c.push_reserved.new.self.items m) (c.in_ok-at.ensures.names ∙ with_new name names new)
    ∙ (ap (λ ls. members_in (names ++ name ∷ []) ls m) (c.push_reserved.ensures.items ∙ ap (λ list. members ++ list ∷ []) c.of.ensures)
    ∙ (miss name c.args.item names members (c.self.invariant ∙ ap length (sym c.in_ok-reserve.ensures.items)) new m
    ∙ (ap (λ ls. members_in names ls m ++ if_same name m c.args.item) c.in_ok-reserve.ensures.items
    ∙ ap (λ groups. members_of groups m ++ if_same name m c.args.item) c.self.view_is)))
