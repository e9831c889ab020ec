use Rattle.std.proofs.Common.{rules, sym, ap, ◌∙◌, length, arith}
use Rattle.std.specs.Str.{chars}
use Rattle.xml_blocks.proofs.XmlLaws.{quoted_closed, quoted_more, quoted_none}
use Rattle.xml_blocks.proofs.tag.quoted_len.Goals as goal

pub returns-in_default-clause-count : goal.returns-in_default-clause-count
returns-in_default-clause-count c = quoted_none c.characters.count c.characters.quote (chars c.characters.rest.now) c.characters.invariant.2 c.in_default.ensures

pub returns-then-closes-clause-count : goal.returns-then-closes-clause-count
returns-then-closes-clause-count c = quoted_closed c.characters.count c.characters.quote (chars c.characters.rest.now) c.characters.invariant.2 c.in-Some.c (chars c.in-Some.more.now) c.in-Some.ensures (sym c.closes.ensures ∙ c.if-closes.true)

pub characters-preserved : goal.characters-preserved
characters-preserved c = (search rules, omega (arith, c.characters.invariant.1, ap length c.in-Some.ensures), quoted_more c.characters.count c.characters.quote (chars c.characters.rest.now) c.characters.invariant.2 c.in-Some.c (chars c.in-Some.more.now) _ c.in-Some.ensures (sym c.closes.ensures ∙ c.if-closes.false) c.open_quote-quote.ensures)
