use Rattle.std.proofs.Common.{◌∙◌, ◌+◌, ◌<◌, sym, ap, length, arith}
use Rattle.std.specs.Prelude.{Some, None}
use Rattle.std.specs.Str.{bytes_eq}
use Rattle.abnf_parts.specs.Names.{rule_number, folded_text, all_names}
use Rattle.abnf_parts.proofs.NameLaws.{position_append, behind}
use Rattle.abnf_parts.proofs.names.RuleNames.rule_of.Goals as goal

pub returns-in-Some : goal.returns-in-Some
returns-in-Some c =
    let own = c.self.inside.own in
    let core = c.self.inside.core in
    let name = folded_text c.args.name in
    ap Some c.new.ensures
    ∙ (ap (λ o. behind (bytes_eq name) (length own) o (rule_number core name)) (sym c.in-Some.is ∙ c.index_of.ensures.index)
    ∙ (sym (position_append (bytes_eq name) own core) ∙ ap (λ names. rule_number (all_names names) name) c.self.view_is))

pub overflow_add-len : goal.overflow_add-len
overflow_add-len c =
    let own : c.len.result < 9223372036854775808 = c.len.ensures.small in
    let core : c.in-Some-index_of.rule < 9223372036854775808 = c.in-Some-index_of.ensures.small in
    omega (arith, own, core)

pub returns-in-Some-index_of : goal.returns-in-Some-index_of
returns-in-Some-index_of c =
    let own = c.self.inside.own in
    let core = c.self.inside.core in
    let name = folded_text c.args.name in
    ap Some (c.new-in-Some-index_of.ensures ∙ ap (λ n. n + c.in-Some-index_of.rule) c.len.ensures.len)
    ∙ (ap (λ o. behind (bytes_eq name) (length own) None o) (sym c.in-Some-index_of.is ∙ c.index_of-2.ensures.index)
    ∙ (ap (λ o. behind (bytes_eq name) (length own) o (rule_number core name)) (sym c.in_default.is ∙ c.index_of.ensures.index)
    ∙ (sym (position_append (bytes_eq name) own core) ∙ ap (λ names. rule_number (all_names names) name) c.self.view_is)))

pub returns-in-None : goal.returns-in-None
returns-in-None c =
    let own = c.self.inside.own in
    let core = c.self.inside.core in
    let name = folded_text c.args.name in
    ap (λ o. behind (bytes_eq name) (length own) None o) (sym c.in-None.is ∙ c.index_of-2.ensures.index)
    ∙ (ap (λ o. behind (bytes_eq name) (length own) o (rule_number core name)) (sym c.in_default.is ∙ c.index_of.ensures.index)
    ∙ (sym (position_append (bytes_eq name) own core) ∙ ap (λ names. rule_number (all_names names) name) c.self.view_is))
