use Rattle.std.proofs.Common.{◌≡◌, List, ℕ, refl, ap, sym, subst, ◌∙◌, arith}
use Rattle.std.specs.Prelude.{IfSome}
use Rattle.std.specs.List.{slice_get}
use Rattle.std.specs.Char.{len_utf8}
use Rattle.std.specs.Str.{chars}
use Rattle.ls_text.specs.Lines.{lines, offset_of, units}
use Rattle.ls_text.specs.Positions.{position_in, position_of, Measured}
use Rattle.ls_text.specs.own.Counts.{IsCountedIn}
use Rattle.ls_text.specs.declared.position.Position.{Position}
use Rattle.ls_text.specs.declared.ruler.Counted.{Counted}
use Rattle.ls_text.proofs.PositionLaws.{same_position}
use Rattle.ls_text.proofs.ruler.Ruler.position_in.Goals as goal

-- what has been counted for one view of the ruler has been counted for another that is the same
counted_for : {a b : Measured} (line : List ℕ) (counted : Counted) → a ≡ b → IsCountedIn (units b.encoding) line counted → IsCountedIn (units a.encoding) line counted
counted_for line counted e is = subst (λ (m : Measured). IsCountedIn (units m.encoding) line counted) (sym e) is

pub up_to-counted-requires-clause-counted : goal.up_to-counted-requires-clause-counted
up_to-counted-requires-clause-counted c = (chars c.in-Some.held.now, counted_for _ _ c.self.view_is c.counted_before.ensures.counted)

pub overflow_cast-result : goal.overflow_cast-result
overflow_cast-result c = omega (arith, c.in-Some.ensures.fits)

pub invariant_of-self : goal.invariant_of-self
invariant_of-self c = record {
  line = chars c.in-Some.held.now;
  here = c.in-Some.ensures.line;
  so_far = (c.up_to-counted.ensures (chars c.in-Some.held.now) (counted_for _ _ c.self.view_is c.counted_before.ensures.counted)).0;
}

pub returns-clause-in_line : goal.returns-clause-in_line
returns-clause-in_line c =
    let units_are = (c.up_to-counted.ensures (chars c.in-Some.held.now) (counted_for _ _ c.self.view_is c.counted_before.ensures.counted)).1 in
    let is : Position = record { line = c.args.line; character = c.up_to-counted.result.units } in
    subst (λ (m : Measured). IfSome (slice_get (lines m.text) c.args.line) (λ text. is ≡ position_in (units m.encoding) c.args.line text c.args.bytes)) c.self.view_is
    (rw c.in-Some.ensures.line (same_position _ _ _ _ refl units_are))

pub returns-clause-position : goal.returns-clause-position
returns-clause-position c =
    let units_are = (c.up_to-counted.ensures (chars c.in-Some.held.now) (counted_for _ _ c.self.view_is c.counted_before.ensures.counted)).1 in
    same_position _ _ _ _ refl units_are
    ∙ c.in-Some.ensures.position (units c.self.inside.encoding) c.args.bytes
    ∙ ap (λ (m : Measured). position_of (units m.encoding) m.text (offset_of len_utf8 m.text c.args.line c.args.bytes)) c.self.view_is
