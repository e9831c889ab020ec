use Rattle.std.proofs.Common.{arith}
use Rattle.std.specs.Str.{chars}
use Rattle.ls_text.proofs.UnitLaws.{fitting_ascii, bytes_ascii, text_ascii}
use Rattle.ls_text.proofs.units.fitting.Goals as goal

pub returns-then-text-char_count-clause-count : goal.returns-then-text-char_count-clause-count
returns-then-text-char_count-clause-count c =
    let ascii = text_ascii c.args.text.now c.args.char_count c.utf8.text c.requires c.if-text-char_count.true in
    omega (arith, fitting_ascii c.args.encoding (chars c.args.text.now) c.args.limit ascii, c.min-count.ensures, c.requires)

pub returns-then-text-char_count-clause-bytes : goal.returns-then-text-char_count-clause-bytes
returns-then-text-char_count-clause-bytes c =
    let ascii = text_ascii c.args.text.now c.args.char_count c.utf8.text c.requires c.if-text-char_count.true in
    omega (arith, bytes_ascii (chars c.args.text.now) c.min-count.result ascii, c.min-count.ensures, c.requires)
