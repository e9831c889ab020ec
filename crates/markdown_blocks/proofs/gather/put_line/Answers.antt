use Rattle.std.proofs.Common.{arith}
use Rattle.std.proofs.lemmas.Grind.{common_steps}
use Rattle.markdown_blocks.proofs.gather.put_line.Goals as goal

pub returns : goal.returns
returns = grind (arith, common_steps)
