use Rattle.std.proofs.Common.{◌-◌, ◌∙◌, ap, arith, length, take}
use Rattle.std.specs.Prelude.{sum_by}
use Rattle.ls_text.specs.Lines.{units}
use Rattle.ls_text.proofs.PositionLaws.{line_small, bytes_small, position_found}
use Rattle.ls_text.proofs.snapshot.Snapshot.position_of.Goals as goal

pub overflow_cast-result : goal.overflow_cast-result
overflow_cast-result c = omega (arith, line_small c.self.inside.lines c.self.invariant c.line_before-line.result.0 c.line_before-line.ensures.line.in_range)

pub units_before-requires-clause-small : goal.units_before-requires-clause-small
units_before-requires-clause-small c =
    omega (arith, bytes_small c.self.inside.lines c.self.invariant _ _ _ c.line_before-line.ensures.line, ap length c.text.ensures.bytes)

pub returns : goal.returns
returns c =
    position_found c.self.inside.lines c.self.invariant (units c.args.encoding) _ c.self.view_is _ _ _ _ c.line_before-line.ensures.line c.line_before-line.ensures.starts c.line_before-line.ensures.last _
    (c.units_before.ensures ∙ ap (λ t. sum_by (units c.args.encoding) (take (c.args.offset - c.line_before-line.result.2) t)) c.text.ensures.characters)
