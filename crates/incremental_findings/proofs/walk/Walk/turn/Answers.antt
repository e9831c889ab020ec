use Rattle.std.proofs.Common.{arith, refl, sym, subst}
use Rattle.abnf_token.specs.Classes.{Text}
use Rattle.abnf_token.specs.Marks.{AreMarks}
use Rattle.incremental_findings.proofs.WalkLaws.{turn_gives}
use Rattle.incremental_findings.proofs.walk.Walk.turn.Goals as goal

pub returns-clause-walks : goal.returns-clause-walks
returns-clause-walks c = record {
  marked = subst (λ (line : Text). AreMarks line c.row-self.result.marks.now) (sym c.row-self.ensures.text) c.row-self.ensures.marks;
  order = omega (arith, c.requires);
}

pub returns-clause-turns : goal.returns-clause-turns
returns-clause-turns c = record {
  leaves = λ rest h. turn_gives c.args.self.now.sheet.now c.args.self.now.at c.args.self.now.end c.row-self.result.text.now c.at_line-self.result
      c.begins.result c.row-self.result.marks.now rest
      c.row-self.ensures.text c.begins.ensures c.at_line-self.ensures c.row-self.ensures.marks h;
  at = omega arith;
  end = refl;
}
