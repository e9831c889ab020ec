use Rattle.std.proofs.Common.{◌∙◌, sym, ap}
use Rattle.std.specs.Prelude.{string_bytes}
use Rattle.std.specs.Str.{bytes_eq}
use Rattle.abnf_parts.specs.Names.{rule_number}
use Rattle.abnf_parts.proofs.NameLaws.{position_map}
use Rattle.findings_index.proofs.SmallNames.{small_is}
use Rattle.findings_index.proofs.table.NameTable.find.Goals as goal

pub returns-then-is_small : goal.returns-then-is_small
returns-then-is_small c =
    let text = c.args.name.0.now in
    c.get_index_of.ensures.index ∙ (sym (position_map string_bytes (bytes_eq text) c.self.inside.names.keys)
    ∙ (ap (λ names. rule_number names text) c.self.view_is ∙ ap (rule_number c.args.self.now) (sym (small_is text (sym c.is_small.ensures ∙ c.if-is_small.true)))))

pub returns : goal.returns
returns c =
    let text = c.as_str.result.now in
    c.get_index_of-2.ensures.index ∙ (sym (position_map string_bytes (bytes_eq text) c.self.inside.names.keys)
    ∙ (ap (λ names. rule_number names text) c.self.view_is ∙ ap (rule_number c.args.self.now) (c.as_str.ensures.value ∙ c.in_ok-small.ensures.ok)))
