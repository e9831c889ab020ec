use Rattle.std.proofs.Common.{rules}
use Rattle.findings_files.proofs.word.word_of.Goals as goal

pub returns-in-None : goal.returns-in-None
returns-in-None = search rules depth 3
