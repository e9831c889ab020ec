use Rattle.std.proofs.Common.{rules}
use Rattle.abnf_syntax.proofs.heading.Heading.of.Goals as goal

pub returns-then-not-is_name-clause-err : goal.returns-then-not-is_name-clause-err
returns-then-not-is_name-clause-err = search rules depth 2
