use Rattle.std.proofs.Common.{rules, sym, ◌∙◌}
use Rattle.std.specs.Str.{chars}
use Rattle.xml_blocks.proofs.UnreadLaws.{attribute_found, attribute_more, attribute_none}
use Rattle.xml_blocks.proofs.untyped.has_attribute.Goals as goal

pub returns-in_default : goal.returns-in_default
returns-in_default c = attribute_none c.args.name.now c.characters.quote (chars c.characters.rest.now) c.characters.invariant.1 c.in_default.ensures

pub returns-then-begins_attribute : goal.returns-then-begins_attribute
returns-then-begins_attribute c = attribute_found c.args.name.now c.characters.quote (chars c.characters.rest.now) c.characters.invariant.1 c.in-Some.c (chars c.in-Some.more.now) c.in-Some.ensures (sym c.begins_attribute.ensures ∙ c.if-begins_attribute.true)

pub characters-preserved : goal.characters-preserved
characters-preserved c = (search rules, attribute_more c.args.name.now c.characters.quote (chars c.characters.rest.now) c.characters.invariant.1 c.in-Some.c (chars c.in-Some.more.now) _ c.in-Some.ensures (sym c.begins_attribute.ensures ∙ c.if-begins_attribute.false) c.open_quote-quote.ensures)
