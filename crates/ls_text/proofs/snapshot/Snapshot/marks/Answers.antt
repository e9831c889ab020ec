use Rattle.std.proofs.Common.{ℕ, ◌≤◌, List, arith, subst, length}
use Rattle.std.specs.Prelude.{Option, Some, None}
use Rattle.ls_text.specs.Marks.{AreMarksOf}
use Rattle.ls_text.proofs.CutLaws.{text_some, line_none}
use Rattle.ls_text.proofs.snapshot.Snapshot.marks.Goals as goal

pub returns-then-at-len : goal.returns-then-at-len
returns-then-at-len c =
    subst (λ (o : Option (List ℕ)). AreMarksOf o (Some c.marks.result.now)) (text_some c.self.inside.lines _ _ c.self.invariant.lines c.self.view_is c.line-line.result.0 c.line-line.ensures.in_range c.line-line.ensures.line_is) c.marks.ensures

pub returns-else-at-len : goal.returns-else-at-len
returns-else-at-len c =
    let past : length c.self.inside.lines ≤ c.args.at = omega (arith, c.if-at-len.false, c.len.ensures) in
    subst (λ (o : Option (List ℕ)). AreMarksOf o None) (line_none c.self.inside.lines _ _ c.self.invariant.lines c.self.view_is past) tt
