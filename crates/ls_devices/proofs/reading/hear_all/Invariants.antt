use Rattle.std.proofs.Common.{take}
use Rattle.ls_frame.specs.Feeds.{contents_of}
use Rattle.ls_devices.specs.Reading.{HearsOn}
use Rattle.ls_devices.proofs.reading.hear_all.Given as goal

abbrev pub invariant-loop-body : goal.invariant-loop-body
invariant-loop-body g l = record {
  heard : HearsOn g.L.Listener.hears (contents_of (take l.body-index l.bodies)) l.initial.listener l.listener;
  ready : g.L.Listener.is_ready l.listener;
}
