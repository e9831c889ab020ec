use Rattle.std.proofs.Common.{arith, refl}
use Rattle.ls_devices.specs.Reading.{IsRefusal}
use Rattle.ls_devices.proofs.Listening.{refused_at_once}
use Rattle.ls_devices.proofs.reading.listen.Goals as goal

pub returns-in-Err-clause-cause : goal.returns-in-Err-clause-cause
returns-in-Err-clause-cause g c = refl

pub returns-in-Err-clause-heard : goal.returns-in-Err-clause-heard
returns-in-Err-clause-heard g c = refused_at_once g.L.Listener.hears g.L.Listener.breaks (IsRefusal g.L.Fault.From.from_gives) _ _ _ (c.in-Err.refused, c.into.ensures)

pub read_with-requires-clause-none : goal.read_with-requires-clause-none
read_with-requires-clause-none g c = c.requires.none

pub read_with-requires-clause-good : goal.read_with-requires-clause-good
read_with-requires-clause-good g c = c.requires.good

pub read_with-requires-clause-ready : goal.read_with-requires-clause-ready
read_with-requires-clause-ready g c = c.requires.ready

pub read_with-requires-clause-room : goal.read_with-requires-clause-room
read_with-requires-clause-room g c = omega (arith, c.deref_mut.ensures.len, c.in-Ok.ensures.len)

pub read_with-requires-clause-some : goal.read_with-requires-clause-some
read_with-requires-clause-some g c = omega (arith, c.requires.some)

pub returns-clause-cause : goal.returns-clause-cause
returns-clause-cause g c = c.read_with.ensures.cause

pub returns-clause-heard : goal.returns-clause-heard
returns-clause-heard g c = c.read_with.ensures.heard
