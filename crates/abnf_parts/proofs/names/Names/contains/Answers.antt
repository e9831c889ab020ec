use Rattle.std.proofs.Common.{◌∙◌, sym, ap}
use Rattle.std.specs.Option.{is_some}
use Rattle.abnf_parts.specs.Names.{folded_text}
use Rattle.abnf_parts.proofs.NameLaws.{position_any}
use Rattle.abnf_parts.proofs.names.Names.contains.Goals as goal

pub returns-in-Some : goal.returns-in-Some
returns-in-Some c = sym (position_any (folded_text c.args.name) c.args.self.now ∙ ap is_some (sym c.index_of.ensures.index ∙ c.in-Some.is))

pub returns-in-None : goal.returns-in-None
returns-in-None c = sym (position_any (folded_text c.args.name) c.args.self.now ∙ ap is_some (sym c.index_of.ensures.index ∙ c.in-None.is))
