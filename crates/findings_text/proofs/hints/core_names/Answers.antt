use Rattle.std.proofs.Common.{rules}
use Rattle.findings_text.proofs.hints.core_names.Goals as goal

pub returns : goal.returns
returns = search rules depth 3
