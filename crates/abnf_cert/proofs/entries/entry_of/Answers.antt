use Rattle.std.proofs.Common.{rules}
use Rattle.abnf_cert.proofs.entries.entry_of.Goals as goal

pub returns-in-None : goal.returns-in-None
returns-in-None = search rules depth 3
