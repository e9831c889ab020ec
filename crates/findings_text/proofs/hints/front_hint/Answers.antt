use Rattle.std.proofs.Common.{rules}
use Rattle.findings_text.proofs.hints.front_hint.Goals as goal

pub returns-then-starts_with : goal.returns-then-starts_with
returns-then-starts_with = search rules depth 3

pub returns-then-starts_with-2 : goal.returns-then-starts_with-2
returns-then-starts_with-2 = search rules depth 3

pub returns-else-starts_with-2 : goal.returns-else-starts_with-2
returns-else-starts_with-2 = search rules depth 3
