use Rattle.std.proofs.Common.{arith}
use Rattle.std.proofs.lemmas.Str.{length-le-encodes}
use Rattle.ls_text.specs.Lines.{units}
use Rattle.ls_text.specs.declared.position.Encoding.TheVariants.{Utf32}
use Rattle.ls_text.proofs.SmallOffsets.{line_ends_le, offset_small}
use Rattle.published_blocks.proofs.gather.start_of.Goals as goal

pub overflow_cast-begin : goal.overflow_cast-begin
overflow_cast-begin c = omega (arith, c.requires, c.char_count-count.ensures.small, line_ends_le c.args.text.now, length-le-encodes c.args.text.now)

pub returns-clause-small : goal.returns-clause-small
returns-clause-small c = offset_small (units Utf32) c.args.text.now c.args.at 0 c.offset_of.result c.char_count-count.ensures.small c.offset_of.ensures
