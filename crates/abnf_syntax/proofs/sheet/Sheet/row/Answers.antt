use Rattle.std.proofs.Common.{List, [], subst}
use Rattle.std.specs.Prelude.{slice_index_or}
use Rattle.abnf_token.specs.Classes.{Text}
use Rattle.abnf_token.specs.Marks.{AreMarks}
use Rattle.abnf_syntax.proofs.sheet.Sheet.row.Goals as goal

pub returns-clause-marks : goal.returns-clause-marks
returns-clause-marks c = subst (λ (ls : List Text). AreMarks (slice_index_or ls c.args.at []) c.row_of.result.marks.now) c.self.view_is c.row_of.ensures.marks
