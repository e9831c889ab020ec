use Rattle.std.proofs.Common.{arith}
use Rattle.std.proofs.lemmas.Grind.{common_steps}
use Rattle.abnf_syntax.proofs.number.are_small.Goals as goal

pub loop-byte-preserved : goal.loop-byte-preserved
loop-byte-preserved = grind (arith, common_steps)
