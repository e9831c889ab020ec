use Rattle.std.specs.Prelude.{◌≡◌, false, length}
use Rattle.ls_threads.specs.Writing.{HasTold}
use Rattle.ls_threads.specs.declared.ending.Wrote.TheVariants.{All}
use Rattle.ls_threads.proofs.writing.write_rest.Given as goal

abbrev pub invariant-replies : goal.invariant-replies
invariant-replies g l = record {
  good : g.W.Sink.failed l.sink ≡ false;
  told : HasTold All l.initial.desk l.desk (g.W.Sink.contents l.initial.sink) (g.W.Sink.contents l.sink);
  flushed : g.W.Sink.unflushed l.initial.sink ≡ false → g.W.Sink.unflushed l.sink ≡ false;
}

abbrev pub decreases-replies : goal.decreases-replies
decreases-replies g l = length l.desk.outbox
