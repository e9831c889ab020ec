use Rattle.std.proofs.Common.{arith}
use Rattle.std.proofs.lemmas.Grind.{common_steps}
use Rattle.abnf_lint.proofs.productive.productive_rules.Goals as goal

pub marks_of_roots-requires-clause-closed : goal.marks_of_roots-requires-clause-closed
marks_of_roots-requires-clause-closed = grind (arith, common_steps)
