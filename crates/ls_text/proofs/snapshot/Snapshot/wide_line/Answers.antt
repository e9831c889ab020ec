use Rattle.std.proofs.Common.{ap, sym, length, ◌∙◌, arith}
use Rattle.ls_text.specs.Positions.{position_in}
use Rattle.ls_text.proofs.CutLaws.{line_some}
use Rattle.ls_text.proofs.OffsetLaws.{text_found}
use Rattle.ls_text.proofs.PositionLaws.{bytes_small, line_small}
use Rattle.ls_text.proofs.PlaceLaws.{place_in_line}
use Rattle.ls_text.proofs.snapshot.Snapshot.wide_line.Goals as goal

pub returns-clause-line : goal.returns-clause-line
returns-clause-line c =
    sym (line_some c.self.inside.lines _ _ c.self.invariant.lines c.self.view_is c.line-held.result.0 c.text-2.result.now c.line-held.ensures.in_range c.line-held.ensures.line_is c.text-2.ensures.characters)

pub returns-clause-small : goal.returns-clause-small
returns-clause-small c = omega (arith, bytes_small c.self.inside.lines c.self.invariant _ _ _ c.line-held.ensures, ap length c.text-2.ensures.bytes)

pub returns-clause-fits : goal.returns-clause-fits
returns-clause-fits c = omega (arith, line_small c.self.inside.lines c.self.invariant c.args.at c.line-held.ensures.in_range)

pub returns-clause-position : goal.returns-clause-position
returns-clause-position c width bytes =
    let text_is = text_found c.self.inside.lines c.args.at c.line-held.result.0 c.line-held.ensures.in_range c.line-held.ensures.line_is in
    ap (λ x. position_in width c.args.at x bytes) (c.text-2.ensures.characters ∙ sym text_is) ∙ place_in_line c.self.inside.lines c.self.invariant.lines width c.args.at bytes c.line-held.ensures.in_range _ c.self.view_is
