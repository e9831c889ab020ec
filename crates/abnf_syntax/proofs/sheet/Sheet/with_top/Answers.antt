use Rattle.std.proofs.Common.{arith}
use Rattle.std.proofs.lemmas.Str.{length-le-encodes}
use Rattle.abnf_syntax.proofs.sheet.Sheet.with_top.Goals as goal

pub returns-clause-small : goal.returns-clause-small
returns-clause-small c = omega (arith, length-le-encodes c.args.snapshot.now, c.char_count-count.ensures.small)
