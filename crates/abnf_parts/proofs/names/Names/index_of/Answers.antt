use Rattle.std.proofs.Common.{◌∙◌, sym, ap}
use Rattle.std.specs.Str.{bytes_eq}
use Rattle.abnf_parts.specs.Names.{rule_number, folded_text}
use Rattle.abnf_parts.proofs.NameLaws.{position_map}
use Rattle.abnf_parts.proofs.names.Names.index_of.Goals as goal

pub returns-clause-index : goal.returns-clause-index
returns-clause-index c =
    c.get_index_of.ensures.index ∙ (sym (position_map folded_text (bytes_eq (folded_text c.args.name)) c.self.inside.names.keys)
    ∙ ap (λ names. rule_number names (folded_text c.args.name)) c.self.view_is)
