use Rattle.std.proofs.Common.{◌∙◌, sym, ap, length, Some}
use Rattle.std.specs.Str.{bytes_eq}
use Rattle.abnf_parts.specs.Names.{rule_number, folded_text, all_names}
use Rattle.abnf_parts.proofs.NameLaws.{position_append, behind}
use Rattle.abnf_parts.proofs.names.RuleNames.rule_guessed.Goals as goal

pub returns-then-is_at : goal.returns-then-is_at
returns-then-is_at c =
    let own = c.self.inside.own in
    let core = c.self.inside.core in
    let name = folded_text c.args.name in
    ap Some c.new.ensures
    ∙ (ap (λ o. behind (bytes_eq name) (length own) o (rule_number core name)) (sym (c.is_at.ensures c.if-is_at.true))
    ∙ (sym (position_append (bytes_eq name) own core) ∙ ap (λ names. rule_number (all_names names) name) c.self.view_is))
