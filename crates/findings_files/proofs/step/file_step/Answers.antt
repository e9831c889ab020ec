use Rattle.std.proofs.Common.{rules}
use Rattle.findings_files.proofs.step.file_step.Goals as goal

pub returns : goal.returns
returns = search rules depth 3
