use Rattle.std.proofs.Common.{rules}
use Rattle.findings_files.proofs.ending.ending_of.Goals as goal

pub returns-then-has_not_read : goal.returns-then-has_not_read
returns-then-has_not_read = search rules depth 3
