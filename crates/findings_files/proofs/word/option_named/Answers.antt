use Rattle.std.proofs.Common.{rules}
use Rattle.findings_files.proofs.word.option_named.Goals as goal

pub returns-then-eq-6 : goal.returns-then-eq-6
returns-then-eq-6 = search rules depth 3
