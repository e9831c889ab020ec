use Rattle.std.proofs.Common.{rules, ap, ◌∙◌, length, arith}
use Rattle.std.specs.Str.{chars}
use Rattle.xml_blocks.proofs.XmlLaws.{number_bad, number_ends, number_more, number_none}
use Rattle.xml_blocks.proofs.reference.number.Goals as goal

pub returns-in_default-clause-number : goal.returns-in_default-clause-number
returns-in_default-clause-number c = number_none c.args.base c.characters.value c.characters.count (chars c.characters.rest.now) c.characters.invariant.3 c.in_default.ensures

pub returns-then-c-eq59-clause-number : goal.returns-then-c-eq59-clause-number
returns-then-c-eq59-clause-number c = c.named.ensures.named ∙ number_ends c.args.base c.characters.value c.characters.count (chars c.characters.rest.now) c.characters.invariant.3 c.in-Some.c (chars c.in-Some.more.now) c.in-Some.ensures c.if-c-eq59.true

pub returns-in_default-with_digit-clause-number : goal.returns-in_default-with_digit-clause-number
returns-in_default-with_digit-clause-number c = number_bad c.args.base c.characters.value c.characters.count (chars c.characters.rest.now) c.characters.invariant.3 c.in-Some.c (chars c.in-Some.more.now) c.in-Some.ensures c.if-c-eq59.false c.in_default-with_digit.ensures.number

pub characters-preserved : goal.characters-preserved
characters-preserved c = (search rules, c.in-Some-with_digit.ensures.small, omega (arith, c.characters.invariant.2, ap length c.in-Some.ensures), number_more c.args.base c.characters.value c.characters.count (chars c.characters.rest.now) c.characters.invariant.3 c.in-Some.c c.in-Some-with_digit.next (chars c.in-Some.more.now) c.in-Some.ensures c.if-c-eq59.false c.in-Some-with_digit.ensures.number)
