use Rattle.std.proofs.Common.{arith, rules}
use Rattle.ls_text.proofs.snapshot.Snapshot.replaced.Goals as goal

pub spliced-requires-clause-order : goal.spliced-requires-clause-order
spliced-requires-clause-order c = c.if-start-end.true

pub spliced-requires-else-start-end-clause-order : goal.spliced-requires-else-start-end-clause-order
spliced-requires-else-start-end-clause-order c = omega (arith, c.if-start-end.false)

pub returns-then-start-end-clause-ok : goal.returns-then-start-end-clause-ok
returns-then-start-end-clause-ok = search rules depth 3

pub returns-then-start-end-clause-too_large : goal.returns-then-start-end-clause-too_large
returns-then-start-end-clause-too_large = search rules depth 3

pub returns-else-start-end-clause-ok : goal.returns-else-start-end-clause-ok
returns-else-start-end-clause-ok = search rules depth 3

pub returns-else-start-end-clause-too_large : goal.returns-else-start-end-clause-too_large
returns-else-start-end-clause-too_large = search rules depth 3
