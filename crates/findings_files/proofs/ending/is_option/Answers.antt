use Rattle.std.proofs.Common.{rules}
use Rattle.findings_files.proofs.ending.is_option.Goals as goal

pub returns-in-45 : goal.returns-in-45
returns-in-45 = search rules depth 3
