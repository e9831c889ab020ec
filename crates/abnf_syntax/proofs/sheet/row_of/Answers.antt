use Rattle.ls_text.specs.Lines.{lines}
use Rattle.abnf_syntax.proofs.BlockLaws.{marks_found, no_line, no_marks}
use Rattle.abnf_syntax.proofs.sheet.row_of.Goals as goal

pub returns-in-Some-clause-marks : goal.returns-in-Some-clause-marks
returns-in-Some-clause-marks c = marks_found (lines c.args.snapshot.now) c.args.at _ c.in-Some.ensures.marks

pub returns-in-None-clause-text : goal.returns-in-None-clause-text
returns-in-None-clause-text c = no_line _ _ c.in-None.ensures.bytes

pub returns-in-None-clause-marks : goal.returns-in-None-clause-marks
returns-in-None-clause-marks c = no_marks (lines c.args.snapshot.now) c.args.at c.in-None.ensures.marks
