use Rattle.std.proofs.Common.{arith}
use Rattle.abnf_token.proofs.Runs.{equals_slash, equals_other}
use Rattle.abnf_token.proofs.scan.longest_defined_as.Goals as goal

pub returns-then-bytes-eq47 : goal.returns-then-bytes-eq47
returns-then-bytes-eq47 c = equals_slash c.args.bytes.now c.requires.first (omega arith) c.if-bytes-eq47.true

pub returns-else-bytes-eq47 : goal.returns-else-bytes-eq47
returns-else-bytes-eq47 c = equals_other c.args.bytes.now c.requires.first (omega arith) c.if-bytes-eq47.false
