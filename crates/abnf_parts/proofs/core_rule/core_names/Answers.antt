use Rattle.std.proofs.Common.{arith}
use Rattle.std.proofs.lemmas.Grind.{common_steps}
use Rattle.abnf_parts.proofs.core_rule.core_names.Goals as goal

pub loop-core-preserved : goal.loop-core-preserved
loop-core-preserved = grind (arith, common_steps)
