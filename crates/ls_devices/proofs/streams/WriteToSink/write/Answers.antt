use Rattle.std.proofs.Common.{rules}
use Rattle.ls_devices.proofs.streams.WriteToSink.write.Goals as goal

pub returns-in-Ok-clause-some : goal.returns-in-Ok-clause-some
returns-in-Ok-clause-some = search rules depth 3
