use Rattle.std.proofs.Common.{sym}
use Rattle.std.specs.Str.{chars}
use Rattle.draft_findings.proofs.WalkLaws.{get_front, get_none}
use Rattle.draft_findings.proofs.walk.front.Goals as goal

pub returns-in-Some : goal.returns-in-Some
returns-in-Some c = sym (get_front 0 (chars c.args.text.now) c.in-Some.c (chars c.in-Some._behind.now) c.in-Some.ensures)

pub returns-in-None : goal.returns-in-None
returns-in-None c = sym (get_none 0 (chars c.args.text.now) c.in-None.ensures)
