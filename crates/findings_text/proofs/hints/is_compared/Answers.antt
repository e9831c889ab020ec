use Rattle.std.proofs.Common.{rules}
use Rattle.findings_text.proofs.hints.is_compared.Goals as goal

pub returns-then-unknown-ge1 : goal.returns-then-unknown-ge1
returns-then-unknown-ge1 = search rules depth 3
