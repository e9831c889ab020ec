use Rattle.std.proofs.Common.{refl, sym, ◌∙◌, arith}
use Rattle.ls_text.proofs.PlaceLaws.{bytes_at_boundary}
use Rattle.ls_text.proofs.units.units_in.Goals as goal

pub overflow_cast-result : goal.overflow_cast-result
overflow_cast-result c = omega (arith, (c.if-is_char_boundary.ensures.test.0 refl).0, c.requires.small)

pub returns-then-is_char_boundary : goal.returns-then-is_char_boundary
returns-then-is_char_boundary c =
    rw (sym c.units.ensures ∙ c.in-Utf8.is) (bytes_at_boundary c.args.text.now c.utf8.text c.args.bytes (c.if-is_char_boundary.ensures.test.0 refl))
