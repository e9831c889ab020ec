use Rattle.std.specs.Prelude.{◌≡◌, false}
use Rattle.ls_history.specs.Told.{outs_of}
use Rattle.ls_threads.specs.Writing.{HasWritten}
use Rattle.ls_threads.specs.declared.ending.Wrote.TheVariants.{All}
use Rattle.ls_threads.proofs.writing.Writer.write_on.Given as goal

abbrev pub invariant-loop : goal.invariant-loop
invariant-loop g l = record {
  good : g.W.Sink.failed l.sink ≡ false;
  written : HasWritten (g.W.Sink.contents l.initial.sink) (g.W.Sink.contents l.sink) (g.W.Sink.unflushed l.initial.sink) (g.W.Sink.unflushed l.sink) All (outs_of l.seat.front);
}
