use Rattle.std.proofs.Common.{rules, sym, ◌∙◌}
use Rattle.std.specs.Str.{chars}
use Rattle.xml_blocks.proofs.XmlLaws.{type_found, type_more, type_none}
use Rattle.xml_blocks.proofs.tag.has_abnf_type.Goals as goal

pub returns-in_default : goal.returns-in_default
returns-in_default c = type_none c.characters.quote (chars c.characters.rest.now) c.characters.invariant.1 c.in_default.ensures

pub returns-then-begins_type : goal.returns-then-begins_type
returns-then-begins_type c = type_found c.characters.quote (chars c.characters.rest.now) c.characters.invariant.1 c.in-Some.c (chars c.in-Some.more.now) c.in-Some.ensures (sym c.begins_type.ensures ∙ c.if-begins_type.true)

pub characters-preserved : goal.characters-preserved
characters-preserved c = (search rules, type_more c.characters.quote (chars c.characters.rest.now) c.characters.invariant.1 c.in-Some.c (chars c.in-Some.more.now) _ c.in-Some.ensures (sym c.begins_type.ensures ∙ c.if-begins_type.false) c.open_quote-quote.ensures)
