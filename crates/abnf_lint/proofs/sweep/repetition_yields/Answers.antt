use Rattle.std.proofs.Common.{rules}
use Rattle.abnf_lint.proofs.sweep.repetition_yields.Goals as goal

pub returns-then-least-eq0 : goal.returns-then-least-eq0
returns-then-least-eq0 = search rules depth 3
