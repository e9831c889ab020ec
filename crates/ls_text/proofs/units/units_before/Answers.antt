use Rattle.std.proofs.Common.{arith}
use Rattle.std.specs.Str.{chars}
use Rattle.ls_text.proofs.UnitLaws.{units_ascii, text_ascii}
use Rattle.ls_text.proofs.units.units_before.Goals as goal

pub returns-then-text-char_count : goal.returns-then-text-char_count
returns-then-text-char_count c =
    let ascii = text_ascii c.args.text.now c.args.char_count c.utf8.text c.requires.characters c.if-text-char_count.true in
    omega (arith, units_ascii c.args.encoding (chars c.args.text.now) c.args.count ascii, c.min.ensures, c.requires.characters)
