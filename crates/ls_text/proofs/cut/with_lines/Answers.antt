use Rattle.std.proofs.Common.{arith}
use Rattle.ls_text.proofs.CutLaws.{onto_plain, onto_last, onto_more, parts_le}
use Rattle.ls_text.proofs.cut.with_lines.Goals as goal

pub returns-in-Eof-clause-plain : goal.returns-in-Eof-clause-plain
returns-in-Eof-clause-plain c = onto_plain c.first_line-end.ensures

pub returns-in-Eof-clause-cut : goal.returns-in-Eof-clause-cut
returns-in-Eof-clause-cut c = onto_last c.lines.invariant.cut c.first_line-end.ensures c.in-Eof.is

pub returns-in-Eof-clause-small : goal.returns-in-Eof-clause-small
returns-in-Eof-clause-small c = omega (arith, c.lines.invariant.small, (parts_le _ _ _ _ c.first_line-end.ensures).0)

pub pushed-requires : goal.pushed-requires
pushed-requires c = omega (arith, c.requires, c.lines.invariant.small, (parts_le _ _ _ _ c.first_line-end.ensures).0)

pub lines-preserved : goal.lines-preserved
lines-preserved c = record {
  cut = onto_more c.lines.invariant.cut c.first_line-end.ensures c.in_ok-lines.ensures c.in_default.not-Eof;
  small = omega (arith, c.lines.invariant.small, (parts_le _ _ _ _ c.first_line-end.ensures).1);
}
