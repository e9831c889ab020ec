use Rattle.std.proofs.Common.{rules}
use Rattle.text_files.proofs.file.FileFault.of.Goals as goal

pub returns-then-eq-clause-memory : goal.returns-then-eq-clause-memory
returns-then-eq-clause-memory = search rules depth 3

pub returns-else-eq-clause-memory : goal.returns-else-eq-clause-memory
returns-else-eq-clause-memory = search rules depth 3
