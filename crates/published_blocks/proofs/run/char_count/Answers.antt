use Rattle.std.proofs.Common.{rules, ap, length, sym}
use Rattle.std.proofs.lemmas.Str.{chars_from_encodes, chars-IsAscii}
use Rattle.published_blocks.proofs.run.char_count.Goals as goal

pub returns-clause-count : goal.returns-clause-count
returns-clause-count c = search (rules, chars_from_encodes)

pub returns-then-is_ascii-clause-count : goal.returns-then-is_ascii-clause-count
returns-then-is_ascii-clause-count c = ap length (sym (chars-IsAscii c.args.text.now c.if-is_ascii.ensures.cases))
