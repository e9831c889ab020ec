use Rattle.std.proofs.Common.{ℕ, ◌≤◌, List, arith, ap, subst, length}
use Rattle.std.specs.Prelude.{Option, Some, None}
use Rattle.std.specs.Option.{option_map}
use Rattle.std.specs.Str.{encode_utf8_all}
use Rattle.ls_text.specs.Marks.{AreMarksOf}
use Rattle.ls_text.proofs.CutLaws.{line_some, text_some, line_none, bytes_some}
use Rattle.ls_text.proofs.snapshot.Snapshot.row.Goals as goal

pub returns-then-at-len-clause-bytes : goal.returns-then-at-len-clause-bytes
returns-then-at-len-clause-bytes c =
    bytes_some _ c.text.utf8 (line_some c.self.inside.lines _ _ c.self.invariant.lines c.self.view_is c.line-line.result.0 _ c.line-line.ensures.in_range c.line-line.ensures.line_is c.text.ensures.characters)

pub returns-then-at-len-clause-marks : goal.returns-then-at-len-clause-marks
returns-then-at-len-clause-marks c =
    subst (λ (o : Option (List ℕ)). AreMarksOf o (Some c.marks.result.now)) (text_some c.self.inside.lines _ _ c.self.invariant.lines c.self.view_is c.line-line.result.0 c.line-line.ensures.in_range c.line-line.ensures.line_is) c.marks.ensures

pub returns-else-at-len-clause-bytes : goal.returns-else-at-len-clause-bytes
returns-else-at-len-clause-bytes c =
    let past : length c.self.inside.lines ≤ c.args.at = omega (arith, c.if-at-len.false, c.len.ensures) in
    ap (option_map encode_utf8_all) (line_none c.self.inside.lines _ _ c.self.invariant.lines c.self.view_is past)

pub returns-else-at-len-clause-marks : goal.returns-else-at-len-clause-marks
returns-else-at-len-clause-marks c =
    let past : length c.self.inside.lines ≤ c.args.at = omega (arith, c.if-at-len.false, c.len.ensures) in
    subst (λ (o : Option (List ℕ)). AreMarksOf o None) (line_none c.self.inside.lines _ _ c.self.invariant.lines c.self.view_is past) tt
