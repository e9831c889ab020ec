use Rattle.std.proofs.Common.{rules}
use Rattle.abnf_cert.proofs.entries.has_pair.Goals as goal

pub returns-then-own_length-length : goal.returns-then-own_length-length
returns-then-own_length-length = search rules depth 3
