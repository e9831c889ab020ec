use Rattle.std.proofs.Common.{◌≡◌, ◌≤◌, ap, refl, sym, subst, ◌∙◌, arith, length, take, List, ℕ}
use Rattle.std.specs.Prelude.{sum_by, Option, Some, IfSome}
use Rattle.std.specs.Char.{len_utf8}
use Rattle.std.specs.List.{slice_get}
use Rattle.ls_text.specs.Lines.{lines, fitting, units}
use Rattle.ls_text.specs.Cut.{line_text, text_at}
use Rattle.ls_text.specs.Positions.{position_of, position_in}
use Rattle.ls_text.specs.declared.position.Position.{Position}
use Rattle.ls_text.proofs.CutLaws.{line_some, line_none}
use Rattle.ls_text.proofs.OffsetLaws.{offset_past, text_found}
use Rattle.ls_text.proofs.PositionLaws.{line_small, bytes_small, same_position}
use Rattle.ls_text.proofs.PlaceLaws.{place_in_line}
use Rattle.ls_text.proofs.snapshot.Snapshot.position_in.Goals as goal

-- what the result counts
counted : (c : goal.After-units_in) → ◌≡◌ {A = Position} (record { line = c.args.line; character = c.units_in.result }) (position_in (units c.args.encoding) c.args.line (line_text c.line-held.result.0) c.args.bytes)
counted c = same_position _ _ _ _ refl (c.units_in.ensures ∙ ap (λ t. sum_by (units c.args.encoding) (take (fitting len_utf8 t c.args.bytes) t)) c.text-text.ensures.characters)

pub overflow_cast-result : goal.overflow_cast-result
overflow_cast-result c = omega (arith, line_small c.self.inside.lines c.self.invariant c.args.line c.line-held.ensures.in_range)

pub units_in-requires-clause-small : goal.units_in-requires-clause-small
units_in-requires-clause-small c =
    omega (arith, bytes_small c.self.inside.lines c.self.invariant _ _ _ c.line-held.ensures, ap length c.text-text.ensures.bytes)

pub returns-then-line-len-clause-position : goal.returns-then-line-len-clause-position
returns-then-line-len-clause-position c =
    let text_is : text_at c.self.inside.lines c.args.line ≡ line_text c.line-held.result.0 = text_found c.self.inside.lines c.args.line c.line-held.result.0 c.line-held.ensures.in_range c.line-held.ensures.line_is in
    counted c ∙ ap (λ x. position_in (units c.args.encoding) c.args.line x c.args.bytes) (sym text_is) ∙ place_in_line c.self.inside.lines c.self.invariant.lines (units c.args.encoding) c.args.line c.args.bytes c.line-held.ensures.in_range _ c.self.view_is

pub returns-then-line-len-clause-in_line : goal.returns-then-line-len-clause-in_line
returns-then-line-len-clause-in_line c =
    let found : Some (line_text c.line-held.result.0) ≡ slice_get (lines c.args.self.now) c.args.line = ap Some (sym c.text-text.ensures.characters) ∙ line_some c.self.inside.lines _ _ c.self.invariant.lines c.self.view_is c.line-held.result.0 c.text-text.result.now c.line-held.ensures.in_range c.line-held.ensures.line_is c.text-text.ensures.characters in
    subst (λ (o : Option (List ℕ)). IfSome o (λ text. ◌≡◌ {A = Position} (record { line = c.args.line; character = c.units_in.result }) (position_in (units c.args.encoding) c.args.line text c.args.bytes))) found (counted c)

pub returns-else-line-len-clause-position : goal.returns-else-line-len-clause-position
returns-else-line-len-clause-position c =
    c.position_of.ensures ∙ ap (position_of (units c.args.encoding) c.args.self.now) (offset_past len_utf8 c.self.inside.lines c.args.line c.args.bytes _ c.self.invariant.lines c.self.view_is _ c.char_count.ensures.count (omega (arith, c.if-line-len.false, c.len.ensures)))

pub returns-else-line-len-clause-in_line : goal.returns-else-line-len-clause-in_line
returns-else-line-len-clause-in_line c =
    let past : length c.self.inside.lines ≤ c.args.line = omega (arith, c.if-line-len.false, c.len.ensures) in
    subst (λ (o : Option (List ℕ)). IfSome o (λ text. c.position_of.result ≡ position_in (units c.args.encoding) c.args.line text c.args.bytes)) (line_none c.self.inside.lines _ _ c.self.invariant.lines c.self.view_is past) tt
