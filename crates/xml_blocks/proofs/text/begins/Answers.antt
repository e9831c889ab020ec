use Rattle.std.proofs.Common.{rules}
use Rattle.std.specs.Str.{chars}
use Rattle.xml_blocks.proofs.XmlLaws.{begins_all, begins_more, begins_none, begins_other}
use Rattle.xml_blocks.proofs.text.begins.Goals as goal

pub returns-in_default : goal.returns-in_default
returns-in_default c = begins_all c.characters.left.now (chars c.characters.rest.now) c.in_default.ensures.cases c.characters.invariant.1

pub returns-in_default-first : goal.returns-in_default-first
returns-in_default-first c = begins_none c.characters.left.now (chars c.characters.rest.now) c.in-Some.left_behind.now c.in-Some.wanted.now c.in-Some.ensures.cases.0 c.in_default-first.ensures c.characters.invariant.1

pub returns-then-c-wanted : goal.returns-then-c-wanted
returns-then-c-wanted c = begins_other c.characters.left.now (chars c.characters.rest.now) c.in-Some.left_behind.now (chars c.in-Some-first.more.now) c.in-Some.wanted.now c.in-Some-first.c c.in-Some.ensures.cases.0 c.in-Some-first.ensures c.if-c-wanted.true c.characters.invariant.1

pub characters-preserved : goal.characters-preserved
characters-preserved c = (search rules, begins_more c.characters.left.now (chars c.characters.rest.now) c.in-Some.left_behind.now (chars c.in-Some-first.more.now) c.in-Some.wanted.now c.in-Some-first.c c.in-Some.ensures.cases.0 c.in-Some-first.ensures c.if-c-wanted.false c.characters.invariant.1)
