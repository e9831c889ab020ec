use Rattle.std.specs.Prelude.{◌≡◌, ◌+◌, [], List, ℕ, false}
use Rattle.std.specs.Io.KnownBytes.{Consumes}
use Rattle.ls_devices.specs.Input.{ComesMore}
use Rattle.ls_devices.specs.Reading.{HearsOn}
use Rattle.ls_devices.proofs.reading.read_with.Given as goal

abbrev pub invariant-loop-i : goal.invariant-loop-i
invariant-loop-i g l = record {
  read : (read : List ℕ) × Consumes (g.I.Source.remaining l.initial.source) (g.I.Source.remaining l.source) read
      × ComesMore (λ bodies. HearsOn g.L.Listener.hears bodies l.initial.listener l.listener) [] read l.framer;
  reads : g.I.Source.reads l.source + 1 ≡ l.i;
  good : g.I.Source.failed l.source ≡ false;
  ready : g.L.Listener.is_ready l.listener;
}
