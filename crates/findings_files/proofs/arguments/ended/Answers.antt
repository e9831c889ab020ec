use Rattle.std.proofs.Common.{rules}
use Rattle.findings_files.proofs.arguments.ended.Goals as goal

pub returns-else-not-fits : goal.returns-else-not-fits
returns-else-not-fits = search rules depth 3
