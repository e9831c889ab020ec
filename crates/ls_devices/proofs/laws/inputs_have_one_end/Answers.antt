use Rattle.ls_devices.specs.Reading.{IsRefusal}
use Rattle.ls_devices.proofs.Whole.{one_end, some_end}
use Rattle.ls_devices.proofs.laws.inputs_have_one_end.Goals as goal

pub returns-clause-some : goal.returns-clause-some
returns-clause-some g c = λ always. some_end g.L.Listener.hears g.L.Listener.breaks (IsRefusal g.L.Fault.From.from_gives) g.L.Listener.is_ready always

pub returns-clause-one : goal.returns-clause-one
returns-clause-one g c = λ one. one_end g.L.Listener.hears g.L.Listener.breaks (IsRefusal g.L.Fault.From.from_gives) one
