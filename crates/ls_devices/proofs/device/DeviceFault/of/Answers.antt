use Rattle.std.proofs.Common.{rules}
use Rattle.ls_devices.proofs.device.DeviceFault.of.Goals as goal

pub returns-then-eq : goal.returns-then-eq
returns-then-eq = search rules depth 3

pub returns-else-eq : goal.returns-else-eq
returns-else-eq = search rules depth 3
