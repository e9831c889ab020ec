use Rattle.std.proofs.Common.{refl}
use Rattle.ls_threads.specs.declared.ending.Wrote.TheVariants.{All}
use Rattle.ls_threads.proofs.Written.{has_begun, writes_on}
use Rattle.ls_threads.proofs.writing.Writer.write_on.Goals as goal

pub loop-init : goal.loop-init
loop-init g c = record { good = c.args.self.good; written = has_begun _ _ _ c.requires.none }

pub loop-preserved : goal.loop-preserved
loop-preserved g c = record {
  good = c.in-All.ensures.failed;
  written = writes_on _ (g.W.Sink.contents c.loop.sink) _ _ (g.W.Sink.unflushed c.loop.sink) _ All _ _ c.in-Ok-Some.out
      c.loop.invariant.written (rw c.in-Ok-Some.field-0-is at c.in-Ok-Some.ensures.history) (λ e. c.in-All.ensures.all refl) c.in-All.ensures.front (λ e. absurd (cc)) (λ e q. c.in-All.ensures.flushed e refl);
}

pub returns-in-Failed : goal.returns-in-Failed
returns-in-Failed g c = writes_on _ (g.W.Sink.contents c.loop.sink) _ _ (g.W.Sink.unflushed c.loop.sink) _ c.put-end.result _ _ c.in-Ok-Some.out
    c.loop.invariant.written (rw c.in-Ok-Some.field-0-is at c.in-Ok-Some.ensures.history) c.put-end.ensures.all c.put-end.ensures.front c.put-end.ensures.none c.put-end.ensures.flushed
