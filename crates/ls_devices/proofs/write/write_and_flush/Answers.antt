use Rattle.std.proofs.Common.{rules}
use Rattle.ls_devices.proofs.Known.{appends_keeps, prefix_keeps}
use Rattle.ls_devices.proofs.write.write_and_flush.Goals as goal

pub returns-then-is_err-2-clause-prefix : goal.returns-then-is_err-2-clause-prefix
returns-then-is_err-2-clause-prefix g c = prefix_keeps _ _ _ _ c.write_all.ensures.prefix c.flush.ensures.bytes

pub returns-clause-ok : goal.returns-clause-ok
returns-clause-ok g c = appends_keeps _ _ _ _ (search rules) c.flush.ensures.bytes

pub returns-clause-prefix : goal.returns-clause-prefix
returns-clause-prefix g c = prefix_keeps _ _ _ _ c.write_all.ensures.prefix c.flush.ensures.bytes
