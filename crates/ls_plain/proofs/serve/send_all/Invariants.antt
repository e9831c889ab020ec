use Rattle.std.proofs.Common.{◌≡◌, false, length}
use Rattle.ls_steps.specs.Runs.{state_at}
use Rattle.ls_plain.specs.own.Sending.{SomeSent}
use Rattle.ls_plain.proofs.serve.send_all.Given as goal

abbrev pub invariant-replies : goal.invariant-replies
invariant-replies g l = record {
  sent : SomeSent l.initial.talk l.talk (g.W.Sink.contents l.initial.writer) (g.W.Sink.contents l.writer);
  failed : g.W.Sink.failed l.writer ≡ g.W.Sink.failed l.initial.writer;
  flushed : g.W.Sink.unflushed l.initial.writer ≡ false → g.W.Sink.unflushed l.writer ≡ false;
}

abbrev pub decreases-replies : goal.decreases-replies
decreases-replies g l = length (state_at l.talk).unsent
